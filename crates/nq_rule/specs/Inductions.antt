-- Inductions over a bank.
use Rattle.std.specs.Prelude.{◌≡◌, ℕ, List, [], ◌∷◌, ◌++◌, map, All}
use Rattle.nq_logic.specs.Terms.{Term, Substitution, substituted, call}
use Rattle.nq_logic.specs.Words.{not_term, call2}
use Rattle.nq_logic.specs.Laws.{denied}
use Rattle.nq_bank.specs.declared.node.TermId.{TermId}
use Rattle.nq_clause.specs.declared.substitution.Pair.{Pair}
use Rattle.nq_bank.specs.Content.{Content, Stands, term_at, terms_at}
use Rattle.nq_clause.specs.Substitution.{substitution_at, PairStands}
use Rattle.nq_proof.specs.Rules.{Hypothesis, CaseLines, case_substitutions}
use Rattle.nq_rule.specs.declared.induction.InductionStep.{InductionStep}
use Rattle.nq_rule.specs.declared.induction.CaseOfInduction.{CaseOfInduction}

abbrev pub hypothesis_at : Content → InductionStep → Hypothesis
hypothesis_at bank s = record { line = s.line; pairs = substitution_at bank s.pairs.items }

abbrev pub hypotheses_at : Content → List InductionStep → List Hypothesis
hypotheses_at bank steps = map (hypothesis_at bank) steps

abbrev pub case_at : Content → CaseOfInduction → CaseLines
case_at bank c = record { test = term_at bank c.test; step = c.line; hypotheses = hypotheses_at bank c.steps.items }

abbrev pub cases_at : Content → List CaseOfInduction → List CaseLines
cases_at bank cases = map (case_at bank) cases

abbrev pub substitutions_at : Content → List InductionStep → List Substitution
substitutions_at bank steps = case_substitutions (hypotheses_at bank steps)

-- the pairs stand in the bank
pub record HypothesisStands (bank : Content) (s : InductionStep) : Type 0 where
  pub pairs : All (PairStands bank) s.pairs.items

-- the test and the instances stand in the bank
pub record CaseStands (bank : Content) (c : CaseOfInduction) : Type 0 where
  pub test : Stands bank c.test
  pub steps : All (HypothesisStands bank) c.steps.items

-- what may stand in the line of a case
abbrev pub case_literals : Content → TermId → CaseOfInduction → List Term
case_literals bank claim c = not_term (term_at bank c.test) ∷ (denied (term_at bank claim) (substitutions_at bank c.steps.items) ++ (term_at bank claim ∷ []))

-- what may stand in the line that shows that the measure falls at an instance
abbrev pub fall_literals : Content → TermId → TermId → List Pair → List Term
fall_literals bank measure test pairs = not_term (term_at bank test) ∷ call2 "ORD-LESSP" (substituted (substitution_at bank pairs) (term_at bank measure)) (term_at bank measure) ∷ []

-- the term is the call of f of these
pub record IsCallOf (bank : Content) (f : List ℕ) (ids : List TermId) (t : Term) : Type 0 where
  pub stand : All (Stands bank) ids
  pub call_is : t ≡ call f (terms_at bank ids)
