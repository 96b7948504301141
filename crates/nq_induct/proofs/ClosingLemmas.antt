-- The line of an induction.
use Rattle.std.proofs.Common.{◌≡◌, ℕ, Bool, true, false, ◌&&◌, Option, Some, List, [], ◌∷◌, ◌++◌, map, refl, ap}
use Rattle.std.specs.Prelude.{All, Vec}
use Rattle.std.specs.declared.alloc.Global.{Global}
use Rattle.nq_logic.specs.Terms.{Term, Each}
use Rattle.nq_logic.specs.Ground.{symbols_of}
use Rattle.nq_logic.proofs.Lists.{each_append}
use Rattle.nq_bank.specs.declared.node.TermId.{TermId}
use Rattle.nq_bank.specs.Content.{Content, term_at, terms_at}
use Rattle.nq_bank.proofs.NodesLemmas.{All-head, All-tail}
use Rattle.nq_clause.specs.Substitution.{substitution_at}
use Rattle.nq_proof.specs.Clauses.{Clause}
use Rattle.nq_proof.specs.Rules.{case_tests, case_terms, hypothesis_terms, pair_terms, are_falls, are_steps, when}
use Rattle.nq_rule.specs.declared.induction.InductionStep.{InductionStep}
use Rattle.nq_rule.specs.declared.induction.CaseOfInduction.{CaseOfInduction}
use Rattle.nq_rule.specs.Inductions.{hypotheses_at, cases_at}
use Rattle.nq_history.specs.declared.entry.Entry.{Entry}
use Rattle.nq_history.specs.Events.{events_at}
use Rattle.nq_kernel.specs.declared.work.Work.{Work}
use Rattle.nq_kernel.specs.declared.rule.Rule.TheVariants.{Induct}
use Rattle.nq_kernel.specs.Meaning.{clause_at, conclusion_at, RuleStands}
use Rattle.nq_kernel.specs.Over.{IsVariable, IsTermOf, RuleIsIn, hypothesis_names, case_names, pair_names}
use Rattle.nq_lines.specs.Lines.{LineHasOnly, IsTermIn}
use Rattle.nq_lines.proofs.OnlyLemmas.{only_true}
use Rattle.nq_induct.specs.declared.scheme.Scheme.{Scheme}
use Rattle.nq_induct.specs.Schemes.{IsStepIn, IsSchemeIn}
use Rattle.nq_induct.specs.Goals.{IsShownCase}

both_true : (a b : Bool) → a ≡ true → b ≡ true → a && b ≡ true
both_true true b e h = h
both_true false b e h = absurd cc

module _ (history : List Entry) (work : Work) where
  lines : ℕ → Option Clause
  lines n = clause_at work.bank work.log n

  falls_true : (measure test : TermId) (steps : List InductionStep) → All (IsStepIn history work measure test) steps → are_falls (clause_at work.bank work.log) (term_at work.bank measure) (term_at work.bank test) (hypotheses_at work.bank steps) ≡ true
  falls_true measure test [] h = refl
  falls_true measure test (s ∷ steps) h =
      let P : InductionStep → Type 0 = IsStepIn history work measure test in
      let here : IsStepIn history work measure test s = All-head P s steps h in
      both_true _ _
      (both_true _ _ here.pairs.distinct (only_true (clause_at work.bank work.log s.line) _ here.falls))
      (falls_true measure test steps (All-tail P s steps h))

  steps_true : (measure : TermId) (claim : Term) (cases : List CaseOfInduction) → All (IsShownCase history work measure claim) cases → are_steps (clause_at work.bank work.log) claim (term_at work.bank measure) (cases_at work.bank cases) ≡ true
  steps_true measure claim [] h = refl
  steps_true measure claim (c ∷ cases) h =
      let P : CaseOfInduction → Type 0 = IsShownCase history work measure claim in
      let here : IsShownCase history work measure claim c = All-head P c cases h in
      both_true _ _
      (both_true _ _ (only_true (clause_at work.bank work.log c.line) _ here.line) (falls_true measure c.test c.steps.items here.steps))
      (steps_true measure claim cases (All-tail P c cases h))

  -- the line of an induction is allowed, and is that of the claim
  pub induction_given : (s : Scheme) (claim : TermId) (base : ℕ) (cases : Vec CaseOfInduction Global) → IsSchemeIn history work s → All (IsShownCase history work s.measure (term_at work.bank claim)) cases.items → LineHasOnly work base (case_tests (cases_at work.bank cases.items) ++ (term_at work.bank claim ∷ [])) →
      conclusion_at work.bank history work.log (Induct claim s.measure s.ordinal base cases) ≡ Some (term_at work.bank claim ∷ [])
  unfolding conclusion_at
  induction_given s claim base cases scheme shown h =
      ap (λ b. when b (term_at work.bank claim ∷ []))
      (both_true _ _
      (both_true _ _ (only_true (clause_at work.bank work.log s.ordinal) _ scheme.ordinal) (only_true (clause_at work.bank work.log base) _ h))
      (steps_true s.measure (term_at work.bank claim) cases.items shown))

  abbrev Over : Term → Type 0
  Over t = IsTermOf IsVariable (symbols_of (events_at work.bank history)) t

  steps_over : (measure test : TermId) (steps : List InductionStep) → All (IsStepIn history work measure test) steps → Each Over (hypothesis_terms (hypotheses_at work.bank steps))
  steps_over measure test [] h = tt
  steps_over measure test (s ∷ steps) h =
      let P : InductionStep → Type 0 = IsStepIn history work measure test in
      each_append Over (pair_terms (substitution_at work.bank s.pairs.items)) (hypothesis_terms (hypotheses_at work.bank steps)) (All-head P s steps h).pairs.terms (steps_over measure test steps (All-tail P s steps h))

  cases_over : (measure : TermId) (claim : Term) (cases : List CaseOfInduction) → All (IsShownCase history work measure claim) cases → Each Over (case_terms (cases_at work.bank cases))
  cases_over measure claim [] h = tt
  cases_over measure claim (c ∷ cases) h =
      let P : CaseOfInduction → Type 0 = IsShownCase history work measure claim in
      let here : IsShownCase history work measure claim c = All-head P c cases h in
      (here.test.over, each_append Over (hypothesis_terms (hypotheses_at work.bank c.steps.items)) (case_terms (cases_at work.bank cases)) (steps_over measure c.test c.steps.items here.steps) (cases_over measure claim cases (All-tail P c cases h)))

  step_variables : (measure test : TermId) (steps : List InductionStep) → All (IsStepIn history work measure test) steps → Each IsVariable (hypothesis_names (hypotheses_at work.bank steps))
  step_variables measure test [] h = tt
  step_variables measure test (s ∷ steps) h =
      let P : InductionStep → Type 0 = IsStepIn history work measure test in
      each_append IsVariable (pair_names (substitution_at work.bank s.pairs.items)) (hypothesis_names (hypotheses_at work.bank steps)) (All-head P s steps h).pairs.names (step_variables measure test steps (All-tail P s steps h))

  case_variables : (measure : TermId) (claim : Term) (cases : List CaseOfInduction) → All (IsShownCase history work measure claim) cases → Each IsVariable (case_names (cases_at work.bank cases))
  case_variables measure claim [] h = tt
  case_variables measure claim (c ∷ cases) h =
      let P : CaseOfInduction → Type 0 = IsShownCase history work measure claim in
      let here : IsShownCase history work measure claim c = All-head P c cases h in
      each_append IsVariable (hypothesis_names (hypotheses_at work.bank c.steps.items)) (case_names (cases_at work.bank cases)) (step_variables measure c.test c.steps.items here.steps) (case_variables measure claim cases (All-tail P c cases h))

  pub induction_over : (s : Scheme) (claim : TermId) (base : ℕ) (cases : Vec CaseOfInduction Global) → IsSchemeIn history work s → IsTermIn history work claim → All (IsShownCase history work s.measure (term_at work.bank claim)) cases.items → RuleIsIn work.bank history (Induct claim s.measure s.ordinal base cases)
  induction_over s claim base cases scheme c shown =
      record {
        terms = (c.over, (scheme.measure.over, cases_over s.measure (term_at work.bank claim) cases.items shown));
        names = case_variables s.measure (term_at work.bank claim) cases.items shown;
      }

  pub induction_stands : (s : Scheme) (claim : TermId) (base : ℕ) (cases : Vec CaseOfInduction Global) → IsSchemeIn history work s → IsTermIn history work claim → All (IsShownCase history work s.measure (term_at work.bank claim)) cases.items → RuleStands work.bank (Induct claim s.measure s.ordinal base cases)
  induction_stands s claim base cases scheme c shown =
      record {
        claim = c.stands;
        measure = scheme.measure.stands;
        cases = λ k d below. let here = shown k d below in record { test = here.test.stands; steps = λ j e under. record { pairs = (here.steps j e under).pairs.stand } };
      }

-- the tests of the cases
pub tests_same : (bank : Content) (cases : List CaseOfInduction) → case_tests (cases_at bank cases) ≡ terms_at bank (map (λ c. c.test) cases)
tests_same bank [] = refl
tests_same bank (c ∷ cases) = ap (λ ts. term_at bank c.test ∷ ts) (tests_same bank cases)
