-- Rules with other numbers for the lines that they cite.
use Rattle.std.proofs.Common.{◌≡◌, ◌∙◌, ◌+◌, ◌<◌, ◌++◌, ◌∷◌, ℕ, List, [], length, take, get_or, refl, sym, ap, ap₂, subst}
use Rattle.std.specs.Prelude.{All}
use Rattle.std.proofs.lemmas.List.{take_more}
use Rattle.std.proofs.lemmas.List.Elements.{All-cons}
use Rattle.nq_logic.specs.Terms.{Name, Symbol, Term, Each}
use Rattle.nq_bank.specs.Content.{Content, Stands, term_at}
use Rattle.nq_bank.proofs.NodesLemmas.{All-head, All-tail}
use Rattle.nq_clause.specs.Substitution.{substitution_at, PairStands}
use Rattle.nq_proof.specs.Rules as tree
use Rattle.nq_proof.specs.Rules.{Hypothesis, CaseLines, rule_terms, pair_terms, hypothesis_terms, case_terms}
use Rattle.nq_proof.specs.Laws.{renumbered, renumbered_hypotheses, renumbered_cases}
use Rattle.nq_rule.specs.declared.induction.InductionStep.{InductionStep}
use Rattle.nq_rule.specs.declared.induction.CaseOfInduction.{CaseOfInduction}
use Rattle.nq_rule.specs.Inductions.{hypothesis_at, hypotheses_at, case_at, cases_at, HypothesisStands, CaseStands}
use Rattle.nq_kernel.specs.Over.{IsTermOf, RuleIsOver, pair_names, hypothesis_names, case_names, replaced_names}
use Rattle.nq_kernel.specs.declared.rule.Rule.{Rule}
use Rattle.nq_kernel.specs.Meaning.{RuleStands, rule_at}
use Rattle.nq_needed.specs.Renumbering.{IsRenumbered, IsRenumberedStep, AreRenumberedSteps, IsRenumberedCase, AreRenumberedCases}

-- ---- one more

steps_push : (f : ℕ → ℕ) (steps made : List InductionStep) (s m : InductionStep) → AreRenumberedSteps f steps made → IsRenumberedStep f s m → AreRenumberedSteps f (steps ++ s ∷ []) (made ++ m ∷ [])
steps_push f [] [] s m are one = (one, tt)
steps_push f [] (n ∷ made) s m are one = absurd are
steps_push f (r ∷ steps) [] s m are one = absurd are
steps_push f (r ∷ steps) (n ∷ made) s m are one = (are.0, steps_push f steps made s m are.1 one)

cases_push : (f : ℕ → ℕ) (cases made : List CaseOfInduction) (c m : CaseOfInduction) → AreRenumberedCases f cases made → IsRenumberedCase f c m → AreRenumberedCases f (cases ++ c ∷ []) (made ++ m ∷ [])
cases_push f [] [] c m are one = (one, tt)
cases_push f [] (n ∷ made) c m are one = absurd are
cases_push f (d ∷ cases) [] c m are one = absurd are
cases_push f (d ∷ cases) (n ∷ made) c m are one = (are.0, cases_push f cases made c m are.1 one)

pub steps_more : (f : ℕ → ℕ) (steps made : List InductionStep) (i : ℕ) (s m : InductionStep) → i < length steps → s ≡ get_or steps i s → AreRenumberedSteps f (take i steps) made → IsRenumberedStep f s m → AreRenumberedSteps f (take (i + 1) steps) (made ++ m ∷ [])
steps_more f steps made i s m below at are one =
    subst (λ (xs : List InductionStep). AreRenumberedSteps f xs (made ++ m ∷ [])) (ap (λ (r : InductionStep). take i steps ++ r ∷ []) at ∙ sym (take_more steps i s below))
    (steps_push f (take i steps) made s m are one)

pub cases_more : (f : ℕ → ℕ) (cases made : List CaseOfInduction) (i : ℕ) (c m : CaseOfInduction) → i < length cases → c ≡ get_or cases i c → AreRenumberedCases f (take i cases) made → IsRenumberedCase f c m → AreRenumberedCases f (take (i + 1) cases) (made ++ m ∷ [])
cases_more f cases made i c m below at are one =
    subst (λ (xs : List CaseOfInduction). AreRenumberedCases f xs (made ++ m ∷ [])) (ap (λ (r : CaseOfInduction). take i cases ++ r ∷ []) at ∙ sym (take_more cases i c below))
    (cases_push f (take i cases) made c m are one)

-- ---- what they mean over a bank

module _ (bank : Content) (f : ℕ → ℕ) where
  same_step : (s m : InductionStep) → IsRenumberedStep f s m → hypothesis_at bank m ≡ record { line = f s.line; pairs = substitution_at bank s.pairs.items }
  same_step s m is = ap₂ (λ (n : ℕ) (pairs : List (List ℕ × Term)). record { line = n; pairs = pairs }) is.line (ap (substitution_at bank) is.pairs)

  pub same_steps : (steps made : List InductionStep) → AreRenumberedSteps f steps made → hypotheses_at bank made ≡ renumbered_hypotheses f (hypotheses_at bank steps)
  same_steps [] [] are = refl
  same_steps [] (m ∷ made) are = absurd are
  same_steps (s ∷ steps) [] are = absurd are
  same_steps (s ∷ steps) (m ∷ made) are = ap₂ (λ (h : Hypothesis) (hs : List Hypothesis). h ∷ hs) (same_step s m are.0) (same_steps steps made are.1)

  same_case : (c m : CaseOfInduction) → IsRenumberedCase f c m → case_at bank m ≡ record { test = term_at bank c.test; step = f c.line; hypotheses = renumbered_hypotheses f (hypotheses_at bank c.steps.items) }
  same_case c m is =
      ap₂ (λ (t : Term) (n : ℕ). record { test = t; step = n; hypotheses = hypotheses_at bank m.steps.items }) (ap (term_at bank) is.test) is.line ∙
      ap (λ (hs : List Hypothesis). record { test = term_at bank c.test; step = f c.line; hypotheses = hs }) (same_steps c.steps.items m.steps.items is.steps)

  pub same_cases : (cases made : List CaseOfInduction) → AreRenumberedCases f cases made → cases_at bank made ≡ renumbered_cases f (cases_at bank cases)
  same_cases [] [] are = refl
  same_cases [] (m ∷ made) are = absurd are
  same_cases (c ∷ cases) [] are = absurd are
  same_cases (c ∷ cases) (m ∷ made) are = ap₂ (λ (l : CaseLines) (ls : List CaseLines). l ∷ ls) (same_case c m are.0) (same_cases cases made are.1)

  -- what stands of the old stands of the new
  step_stands : (s m : InductionStep) → IsRenumberedStep f s m → HypothesisStands bank s → HypothesisStands bank m
  step_stands s m is stands = record { pairs = subst (All (PairStands bank)) (sym is.pairs) stands.pairs }

  pub steps_stand : (steps made : List InductionStep) → AreRenumberedSteps f steps made → All (HypothesisStands bank) steps → All (HypothesisStands bank) made
  steps_stand [] [] are stand = stand
  steps_stand [] (m ∷ made) are stand = absurd are
  steps_stand (s ∷ steps) [] are stand = absurd are
  steps_stand (s ∷ steps) (m ∷ made) are stand =
      All-cons (HypothesisStands bank) m made (step_stands s m are.0 (All-head (HypothesisStands bank) s steps stand)) (steps_stand steps made are.1 (All-tail (HypothesisStands bank) s steps stand))

  case_stands : (c m : CaseOfInduction) → IsRenumberedCase f c m → CaseStands bank c → CaseStands bank m
  case_stands c m is stands = record { test = subst (Stands bank) (sym is.test) stands.test; steps = steps_stand c.steps.items m.steps.items is.steps stands.steps }

  pub cases_stand : (cases made : List CaseOfInduction) → AreRenumberedCases f cases made → All (CaseStands bank) cases → All (CaseStands bank) made
  cases_stand [] [] are stand = stand
  cases_stand [] (m ∷ made) are stand = absurd are
  cases_stand (c ∷ cases) [] are stand = absurd are
  cases_stand (c ∷ cases) (m ∷ made) are stand =
      All-cons (CaseStands bank) m made (case_stands c m are.0 (All-head (CaseStands bank) c cases stand)) (cases_stand cases made are.1 (All-tail (CaseStands bank) c cases stand))

-- ---- the terms and the names of a rule stay

module _ (f : ℕ → ℕ) where
  same_hypothesis_terms : (hs : List Hypothesis) → hypothesis_terms (renumbered_hypotheses f hs) ≡ hypothesis_terms hs
  same_hypothesis_terms [] = refl
  same_hypothesis_terms (s ∷ hs) = ap (λ ts. pair_terms s.pairs ++ ts) (same_hypothesis_terms hs)

  same_case_terms : (cs : List CaseLines) → case_terms (renumbered_cases f cs) ≡ case_terms cs
  same_case_terms [] = refl
  same_case_terms (c ∷ cs) = ap₂ (λ ts us. c.test ∷ (ts ++ us)) (same_hypothesis_terms c.hypotheses) (same_case_terms cs)

  same_hypothesis_names : (hs : List Hypothesis) → hypothesis_names (renumbered_hypotheses f hs) ≡ hypothesis_names hs
  same_hypothesis_names [] = refl
  same_hypothesis_names (s ∷ hs) = ap (λ xs. pair_names s.pairs ++ xs) (same_hypothesis_names hs)

  same_case_names : (cs : List CaseLines) → case_names (renumbered_cases f cs) ≡ case_names cs
  same_case_names [] = refl
  same_case_names (c ∷ cs) = ap₂ (λ xs ys. xs ++ ys) (same_hypothesis_names c.hypotheses) (same_case_names cs)

  same_terms : (r : tree.Rule) → rule_terms (renumbered f r) ≡ rule_terms r
  same_terms (tree.Taut ts) = refl
  same_terms (tree.AxiomRow name row i) = refl
  same_terms (tree.EventTerm name) = refl
  same_terms (tree.Weaken l ts) = refl
  same_terms (tree.Cut l m t) = refl
  same_terms (tree.Instance l s) = refl
  same_terms (tree.Reflexive t) = refl
  same_terms (tree.Replace l k path t side) = refl
  same_terms (tree.Join l m p x y) = refl
  same_terms (tree.SplitFirst l k) = refl
  same_terms (tree.SplitSecond l k) = refl
  same_terms (tree.NotNot l k) = refl
  same_terms (tree.Value t) = refl
  same_terms (tree.Linear summands) = refl
  same_terms (tree.Induct p m o b cases) = ap (λ ts. p ∷ m ∷ ts) (same_case_terms cases)

  same_names : (r : tree.Rule) → replaced_names (renumbered f r) ≡ replaced_names r
  same_names (tree.Taut ts) = refl
  same_names (tree.AxiomRow name row i) = refl
  same_names (tree.EventTerm name) = refl
  same_names (tree.Weaken l ts) = refl
  same_names (tree.Cut l m t) = refl
  same_names (tree.Instance l s) = refl
  same_names (tree.Reflexive t) = refl
  same_names (tree.Replace l k path t side) = refl
  same_names (tree.Join l m p x y) = refl
  same_names (tree.SplitFirst l k) = refl
  same_names (tree.SplitSecond l k) = refl
  same_names (tree.NotNot l k) = refl
  same_names (tree.Value t) = refl
  same_names (tree.Linear summands) = refl
  same_names (tree.Induct p m o b cases) = same_case_names cases

  renumbered_over : (P : Name → Type 0) (symbols : List Symbol) (r : tree.Rule) → RuleIsOver P symbols r → RuleIsOver P symbols (renumbered f r)
  renumbered_over P symbols r over =
      record {
        terms = subst (Each (IsTermOf P symbols)) (sym (same_terms r)) over.terms;
        names = subst (Each P) (sym (same_names r)) over.names;
      }

-- a rule that is another, with the other's meaning under other numbers
pub renumbered_by : (f : ℕ → ℕ) (other rule made : Rule) → other ≡ rule → ((bank : Content) → rule_at bank made ≡ renumbered f (rule_at bank rule)) → ((bank : Content) → RuleStands bank rule → RuleStands bank made) → IsRenumbered f other made
renumbered_by f other rule made is same stands = subst (λ (r : Rule). IsRenumbered f r made) (sym is) (record { same = same; stands = stands })

-- its terms are over what those of the rule are over
pub made_over : (f : ℕ → ℕ) (P : Name → Type 0) (symbols : List Symbol) (bank : Content) (rule made : Rule) → IsRenumbered f rule made → RuleIsOver P symbols (rule_at bank rule) → RuleIsOver P symbols (rule_at bank made)
made_over f P symbols bank rule made is over = subst (RuleIsOver P symbols) (sym (is.same bank)) (renumbered_over f P symbols (rule_at bank rule) over)
