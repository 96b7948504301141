-- Literals that may stand in the lines of an induction.
use Rattle.std.proofs.Common.{◌≡◌, ℕ, ◌+◌, ◌<◌, Bool, true, false, ◌||◌, eqb, Option, Some, None, List, [], ◌∷◌, ◌++◌, length, get_or, take, refl, sym, ap, ◌∙◌}
use Rattle.std.specs.Prelude.{IsSome}
use Rattle.std.proofs.lemmas.Bool.{eqb-true}
use Rattle.std.proofs.lemmas.List.{take_more, length-map}
use Rattle.nq_logic.specs.Terms.{Term, substituted, call}
use Rattle.nq_logic.specs.Words.{not_term}
use Rattle.nq_logic.specs.Laws.{denied}
use Rattle.nq_bank.specs.declared.node.TermId.{TermId}
use Rattle.nq_bank.specs.Content.{Content, term_at, terms_at, term_from}
use Rattle.nq_bank.proofs.Texts.{same_test}
use Rattle.nq_clause.specs.Substitution.{substitution_at}
use Rattle.nq_clause.proofs.InstanceLemmas.{Tells, call_parts}
use Rattle.nq_proof.specs.Clauses.{Clause, same_term, has_term}
use Rattle.nq_proof.specs.Rules.{case_tests}
use Rattle.nq_proof.proofs.Tests.{same_true}
use Rattle.nq_rule.specs.declared.induction.InductionStep.{InductionStep}
use Rattle.nq_rule.specs.declared.induction.CaseOfInduction.{CaseOfInduction}
use Rattle.nq_rule.specs.Inductions.{substitutions_at, cases_at, IsCallOf}
use Rattle.nq_rule.proofs.LiteralLemmas.{true_same}
use Rattle.nq_rule.proofs.ClauseLemmas.{has_term-push}

-- an answer that tells whether two terms are one
pub told_same : (b : Bool) (u t : Term) → Tells b (u ≡ t) → b ≡ same_term t u
told_same b u t h = same_test b (same_term t u) (λ k. true_same t u (sym (h.0 k))) (λ k. h.1 (sym (same_true t u k)))

pub false_same : (t u : Term) → (t ≡ u → ⊥) → false ≡ same_term t u
false_same t u f = same_test false (same_term t u) (λ k. absurd (no_truth k)) (λ k. absurd (f (same_true t u k)))
  where
    no_truth : false ≡ true → ⊥
    no_truth k = cc

case_tests-push : (bank : Content) (cases : List CaseOfInduction) (c : CaseOfInduction) → case_tests (cases_at bank (cases ++ c ∷ [])) ≡ case_tests (cases_at bank cases) ++ term_at bank c.test ∷ []
case_tests-push bank [] c = refl
case_tests-push bank (d ∷ cases) c = ap (λ ts. term_at bank d.test ∷ ts) (case_tests-push bank cases c)

denied-push : (bank : Content) (p : Term) (steps : List InductionStep) (s : InductionStep) → denied p (substitutions_at bank (steps ++ s ∷ [])) ≡ denied p (substitutions_at bank steps) ++ not_term (substituted (substitution_at bank s.pairs.items) p) ∷ []
denied-push bank p [] s = refl
denied-push bank p (r ∷ steps) s = ap (λ ts. not_term (substituted (substitution_at bank r.pairs.items) p) ∷ ts) (denied-push bank p steps s)

-- one more term
has_one_more : (t u : Term) (c longer : Clause) (so_far here found : Bool) → longer ≡ c ++ u ∷ [] → so_far ≡ has_term t c → here ≡ same_term t u → found ≡ (so_far || here) → found ≡ has_term t longer
has_one_more t u c longer so_far here found e was is either =
    either ∙ ap (λ b. b || here) was ∙ ap (λ b. has_term t c || b) is ∙ sym (ap (has_term t) e ∙ has_term-push t u c)

pub tested_more : (bank : Content) (t : Term) (cases : List CaseOfInduction) (i : ℕ) (c : CaseOfInduction) (so_far here found : Bool) → i < length cases → get_or cases i c ≡ c → so_far ≡ has_term t (case_tests (cases_at bank (take i cases))) → here ≡ same_term t (term_at bank c.test) → found ≡ (so_far || here) → found ≡ has_term t (case_tests (cases_at bank (take (i + 1) cases)))
tested_more bank t cases i c so_far here found below at was is either =
    has_one_more t (term_at bank c.test) (case_tests (cases_at bank (take i cases))) (case_tests (cases_at bank (take (i + 1) cases))) so_far here found
    (ap (λ cs. case_tests (cases_at bank cs)) (take_more cases i c below ∙ ap (λ d. take i cases ++ d ∷ []) at) ∙ case_tests-push bank (take i cases) c) was is either

pub denied_more : (bank : Content) (p t : Term) (steps : List InductionStep) (i : ℕ) (s : InductionStep) (so_far here found : Bool) → i < length steps → get_or steps i s ≡ s → so_far ≡ has_term t (denied p (substitutions_at bank (take i steps))) → here ≡ same_term t (not_term (substituted (substitution_at bank s.pairs.items) p)) → found ≡ (so_far || here) → found ≡ has_term t (denied p (substitutions_at bank (take (i + 1) steps)))
denied_more bank p t steps i s so_far here found below at was is either =
    has_one_more t (not_term (substituted (substitution_at bank s.pairs.items) p)) (denied p (substitutions_at bank (take i steps))) (denied p (substitutions_at bank (take (i + 1) steps))) so_far here found
    (ap (λ ss. denied p (substitutions_at bank ss)) (take_more steps i s below ∙ ap (λ r. take i steps ++ r ∷ []) at) ∙ denied-push bank p (take i steps) s) was is either

-- a call of two arguments, and one of one
pub two_told : (bank : Content) (f : List ℕ) (ids : List TermId) (d : TermId) (l x y : Term) → IsCallOf bank f ids l → l ≡ call f (x ∷ y ∷ []) → (length ids ≡ 2) × (term_at bank (get_or ids 1 d) ≡ y)
two_told bank f [] d l x y is e = absurd (no_none (call_parts f f [] (x ∷ y ∷ []) (sym is.call_is ∙ e)).1)
  where
    no_none : [] ≡ x ∷ y ∷ [] → ⊥
    no_none e = cc
two_told bank f (a ∷ []) d l x y is e = absurd (no_one (call_parts f f (term_at bank a ∷ []) (x ∷ y ∷ []) (sym is.call_is ∙ e)).1)
  where
    no_one : term_at bank a ∷ [] ≡ x ∷ y ∷ [] → ⊥
    no_one e = cc
two_told bank f (a ∷ (b ∷ [])) d l x y is e = (refl, second (call_parts f f (term_at bank a ∷ (term_at bank b ∷ [])) (x ∷ y ∷ []) (sym is.call_is ∙ e)).1)
  where
    second : term_at bank a ∷ (term_at bank b ∷ []) ≡ x ∷ y ∷ [] → term_at bank b ≡ y
    second e = cc
two_told bank f (a ∷ (b ∷ (c ∷ ids))) d l x y is e = absurd (no_more (call_parts f f (term_at bank a ∷ (term_at bank b ∷ (term_at bank c ∷ terms_at bank ids))) (x ∷ y ∷ []) (sym is.call_is ∙ e)).1)
  where
    no_more : term_at bank a ∷ (term_at bank b ∷ (term_at bank c ∷ terms_at bank ids)) ≡ x ∷ y ∷ [] → ⊥
    no_more e = cc

pub one_told : (bank : Content) (f : List ℕ) (ids : List TermId) (l x : Term) → IsCallOf bank f ids l → l ≡ call f (x ∷ []) → length ids ≡ 1
one_told bank f ids l x is e =
    sym (length-map ids (term_from bank.terms)) ∙ ap length (call_parts f f (terms_at bank ids) (x ∷ []) (sym is.call_is ∙ e)).1

pub not_one : (n : ℕ) → (n ≡ 1 → ⊥) → eqb n 1 ≡ false
not_one n h = sym (same_test false (eqb n 1) (λ k. absurd (no_truth k)) (λ k. absurd (h (eqb-true n 1 k))))
  where
    no_truth : false ≡ true → ⊥
    no_truth k = cc

pub none_is_not : {X : Type 0} (o : Option X) → o ≡ None → IsSome o → ⊥
none_is_not None e h = cc
none_is_not (Some x) e h = cc
