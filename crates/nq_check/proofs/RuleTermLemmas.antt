-- Where a function stands in the terms of a rule.
use Rattle.std.proofs.Common.{◌≡◌, ℕ, suc, ◌+◌, ◌<◌, add-one, Bool, true, false, ◌||◌, ◌&&◌, not, List, [], ◌∷◌, ◌++◌, length, get_or, drop, drop-cons, refl, sym, ap, ◌∙◌, append-nil}
use Rattle.nq_logic.specs.Terms.{Name, Term}
use Rattle.nq_logic.specs.Admissible.{mentions}
use Rattle.nq_bank.specs.Content.{Content, term_at}
use Rattle.nq_clause.specs.Substitution.{substitution_at}
use Rattle.nq_proof.specs.Rules.{case_terms, hypothesis_terms, pair_terms}
use Rattle.nq_rule.specs.declared.induction.CaseOfInduction.{CaseOfInduction}
use Rattle.nq_rule.specs.declared.induction.InductionStep.{InductionStep}
use Rattle.nq_rule.specs.Inductions.{cases_at, hypotheses_at}
use Rattle.nq_log.specs.RuleLines.{are_without}
use Rattle.std.specs.Prelude.{Some, None}
use Rattle.nq_calls.specs.Mentions.{is_mentioned}

or_assoc : (a b d : Bool) → ((a || b) || d) ≡ (a || (b || d))
or_assoc true b d = refl
or_assoc false b d = refl

pub mentioned_append : (f : Name) (ts us : List Term) → is_mentioned f (ts ++ us) ≡ (is_mentioned f ts || is_mentioned f us)
mentioned_append f [] us = refl
mentioned_append f (t ∷ ts) us = ap (λ b. mentions f t || b) (mentioned_append f ts us) ∙ sym (or_assoc (mentions f t) (is_mentioned f ts) (is_mentioned f us))

-- the terms are without a function where it stands in none
pub without_is : (f : Name) (k : ℕ) (ts : List Term) → not (is_mentioned f ts) ≡ are_without (Some (f, k)) ts
without_is f k [] = refl
without_is f k (t ∷ ts) = both (mentions f t) (is_mentioned f ts) ∙ ap (λ b. not (mentions f t) && b) (without_is f k ts)
  where
    both : (a b : Bool) → not (a || b) ≡ (not a && not b)
    both true b = refl
    both false b = refl

-- so they are where no function is introduced
pub without_none : (ts : List Term) → are_without None ts ≡ true
without_none [] = refl
without_none (t ∷ ts) = without_none ts

module _ (f : Name) (bank : Content) where
  -- the instances that are left
  module _ (steps : List InductionStep) where
    abbrev pub steps_from : ℕ → Bool
    steps_from i = is_mentioned f (hypothesis_terms (hypotheses_at bank (drop i steps)))

    step_at : (i : ℕ) (d : InductionStep) → i < length steps → steps_from i ≡ (is_mentioned f (pair_terms (substitution_at bank (get_or steps i d).pairs.items)) || steps_from (suc i))
    step_at i d below =
        ap (λ (l : List InductionStep). is_mentioned f (hypothesis_terms (hypotheses_at bank l))) (drop-cons steps i d below)
        ∙ mentioned_append f (pair_terms (substitution_at bank (get_or steps i d).pairs.items)) (hypothesis_terms (hypotheses_at bank (drop (suc i) steps)))

    pub step_here : (i : ℕ) (d : InductionStep) (here : Bool) → i < length steps → here ≡ is_mentioned f (pair_terms (substitution_at bank (get_or steps i d).pairs.items)) → here ≡ true → steps_from i ≡ steps_from 0 → true ≡ steps_from 0
    step_here i d here below is e so_far = ap (λ b. b || steps_from (suc i)) (sym e ∙ is) ∙ sym (step_at i d below) ∙ so_far

    pub step_not : (i : ℕ) (d : InductionStep) (here : Bool) → i < length steps → here ≡ is_mentioned f (pair_terms (substitution_at bank (get_or steps i d).pairs.items)) → here ≡ false → steps_from i ≡ steps_from 0 → steps_from (i + 1) ≡ steps_from 0
    step_not i d here below is e so_far = ap steps_from (add-one i) ∙ ap (λ b. b || steps_from (suc i)) (sym e ∙ is) ∙ sym (step_at i d below) ∙ so_far

  -- one case, and the cases that are left
  pub case_is : (c : CaseOfInduction) → is_mentioned f (case_terms (cases_at bank (c ∷ []))) ≡ (mentions f (term_at bank c.test) || is_mentioned f (hypothesis_terms (hypotheses_at bank c.steps.items)))
  case_is c = ap (λ (ts : List Term). mentions f (term_at bank c.test) || is_mentioned f ts) (append-nil (hypothesis_terms (hypotheses_at bank c.steps.items)))

  more_cases : (c : CaseOfInduction) (cases : List CaseOfInduction) → is_mentioned f (case_terms (cases_at bank (c ∷ cases))) ≡ (is_mentioned f (case_terms (cases_at bank (c ∷ []))) || is_mentioned f (case_terms (cases_at bank cases)))
  more_cases c cases =
      ap (λ b. mentions f (term_at bank c.test) || b) (mentioned_append f (hypothesis_terms (hypotheses_at bank c.steps.items)) (case_terms (cases_at bank cases)))
      ∙ sym (or_assoc (mentions f (term_at bank c.test)) (is_mentioned f (hypothesis_terms (hypotheses_at bank c.steps.items))) (is_mentioned f (case_terms (cases_at bank cases))))
      ∙ ap (λ b. b || is_mentioned f (case_terms (cases_at bank cases))) (sym (case_is c))

  module _ (cases : List CaseOfInduction) where
    abbrev pub cases_from : ℕ → Bool
    cases_from i = is_mentioned f (case_terms (cases_at bank (drop i cases)))

    case_at_place : (i : ℕ) (d : CaseOfInduction) → i < length cases → cases_from i ≡ (is_mentioned f (case_terms (cases_at bank (get_or cases i d ∷ []))) || cases_from (suc i))
    case_at_place i d below = ap (λ (l : List CaseOfInduction). is_mentioned f (case_terms (cases_at bank l))) (drop-cons cases i d below) ∙ more_cases (get_or cases i d) (drop (suc i) cases)

    pub case_here : (i : ℕ) (d : CaseOfInduction) (here : Bool) → i < length cases → here ≡ is_mentioned f (case_terms (cases_at bank (get_or cases i d ∷ []))) → here ≡ true → cases_from i ≡ cases_from 0 → true ≡ cases_from 0
    case_here i d here below is e so_far = ap (λ b. b || cases_from (suc i)) (sym e ∙ is) ∙ sym (case_at_place i d below) ∙ so_far

    pub case_not : (i : ℕ) (d : CaseOfInduction) (here : Bool) → i < length cases → here ≡ is_mentioned f (case_terms (cases_at bank (get_or cases i d ∷ []))) → here ≡ false → cases_from i ≡ cases_from 0 → cases_from (i + 1) ≡ cases_from 0
    case_not i d here below is e so_far = ap cases_from (add-one i) ∙ ap (λ b. b || cases_from (suc i)) (sym e ∙ is) ∙ sym (case_at_place i d below) ∙ so_far
