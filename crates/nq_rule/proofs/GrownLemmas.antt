-- Inductions mean the same in a bank that grew.
use Rattle.std.proofs.Common.{◌≡◌, List, [], ◌∷◌, get_or, refl}
use Rattle.std.specs.Prelude.{All}
use Rattle.nq_bank.specs.Content.{Content, Grows}
use Rattle.nq_bank.proofs.NodesLemmas.{All-head, All-tail}
use Rattle.nq_bank.proofs.Growth.{Stands-grown, term_at-grown}
use Rattle.nq_clause.proofs.SubstitutionLemmas.{substitution_at-grown, pairs_grown}
use Rattle.nq_rule.specs.declared.induction.InductionStep.{InductionStep}
use Rattle.nq_rule.specs.declared.induction.CaseOfInduction.{CaseOfInduction}
use Rattle.nq_rule.specs.Inductions.{hypotheses_at, cases_at, HypothesisStands, CaseStands}

module _ (old new : Content) (h : Grows old new) where
  hypotheses_at-grown : (steps : List InductionStep) → All (HypothesisStands old) steps → hypotheses_at new steps ≡ hypotheses_at old steps
  hypotheses_at-grown [] k = refl
  hypotheses_at-grown (s ∷ steps) k =
      let here : HypothesisStands old s = All-head (HypothesisStands old) s steps k in
      let pairs = substitution_at-grown old new s.pairs.items h here.pairs in
      let rest = hypotheses_at-grown steps (All-tail (HypothesisStands old) s steps k) in
      rw (pairs, rest) refl

  hypothesis_stands : (s : InductionStep) → HypothesisStands old s → HypothesisStands new s
  hypothesis_stands s k = record { pairs = pairs_grown old new s.pairs.items h k.pairs }

  pub cases_at-grown : (cases : List CaseOfInduction) → All (CaseStands old) cases → cases_at new cases ≡ cases_at old cases
  cases_at-grown [] k = refl
  cases_at-grown (c ∷ cases) k =
      let here : CaseStands old c = All-head (CaseStands old) c cases k in
      let test = term_at-grown old new c.test h here.test in
      let steps = hypotheses_at-grown c.steps.items here.steps in
      let rest = cases_at-grown cases (All-tail (CaseStands old) c cases k) in
      rw (test, steps, rest) refl

  pub cases_stand : (cases : List CaseOfInduction) → All (CaseStands old) cases → All (CaseStands new) cases
  cases_stand cases k = λ i d below. let here = k i d below in record { test = Stands-grown old new (get_or cases i d).test h here.test; steps = λ j r within. hypothesis_stands (get_or (get_or cases i d).steps.items j r) (here.steps j r within) }
