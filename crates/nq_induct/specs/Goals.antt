-- The goals of an induction, as clauses.
use Rattle.std.specs.Prelude.{◌≡◌, ◌<◌, ℕ, List, [], ◌∷◌, ◌++◌, map, length, get_or, Vec, All}
use Rattle.std.specs.declared.alloc.Global.{Global}
use Rattle.nq_logic.specs.Terms.{Term}
use Rattle.nq_logic.specs.Words.{not_term}
use Rattle.nq_logic.specs.Laws.{denied}
use Rattle.nq_bank.specs.declared.node.TermId.{TermId}
use Rattle.nq_bank.specs.Content.{Content, term_at, terms_at}
use Rattle.nq_clause.specs.declared.substitution.Pair.{Pair}
use Rattle.nq_rule.specs.declared.induction.InductionStep.{InductionStep}
use Rattle.nq_rule.specs.declared.induction.CaseOfInduction.{CaseOfInduction}
use Rattle.nq_rule.specs.Inductions.{substitutions_at}
use Rattle.nq_history.specs.declared.entry.Entry.{Entry}
use Rattle.nq_kernel.specs.declared.work.Work.{Work}
use Rattle.nq_lines.specs.Lines.{IsTermIn, LineHasOnly}
use Rattle.nq_induct.specs.declared.scheme.Case.{Case}
use Rattle.nq_induct.specs.declared.scheme.Scheme.{Scheme}
use Rattle.nq_induct.specs.Claims.{any_of}
use Rattle.nq_induct.specs.Schemes.{IsStepIn}

-- the terms stand and are over the history
abbrev pub AreTermsIn : List Entry → Work → List TermId → Type 0
AreTermsIn history work terms = All (IsTermIn history work) terms

-- the tests of the cases
abbrev pub tests_at : Content → List Case → List Term
tests_at bank cases = map (λ c. term_at bank c.test) cases

-- the claim at the substitutions of a case, denied
abbrev pub hypotheses_of : Content → Term → Case → List Term
hypotheses_of bank claim c = denied claim (substitutions_at bank c.steps.items)

-- the base case: no test holds
abbrev pub base_goal : Content → List Case → List Term → List Term
base_goal bank cases goal = tests_at bank cases ++ goal

-- a case: its test holds, and the goal does at each of its substitutions
abbrev pub step_goal : Content → List Term → Case → List Term
step_goal bank goal c = not_term (term_at bank c.test) ∷ (goal ++ hypotheses_of bank (any_of goal) c)

-- the base case, and then each case of the scheme
abbrev pub goals_at : Content → Scheme → List TermId → List (List Term)
goals_at bank s goal = base_goal bank s.cases.items (terms_at bank goal) ∷ map (step_goal bank (terms_at bank goal)) s.cases.items

abbrev pub clauses_at : Content → List (Vec TermId Global) → List (List Term)
clauses_at bank clauses = map (λ c. terms_at bank c.items) clauses

-- there is a line for each of these clauses that has only its literals
pub record AreShown (work : Work) (clauses : List (List Term)) (lines : List ℕ) : Type 0 where
  pub count : length lines ≡ length clauses
  pub each : (k : ℕ) → k < length clauses → LineHasOnly work (get_or lines k 0) (get_or clauses k [])

-- A case with the line that proves it: the line has only that the test fails, the claim at the substitutions, denied, and the claim.
pub record IsShownCase (history : List Entry) (work : Work) (measure : TermId) (claim : Term) (c : CaseOfInduction) : Type 0 where
  pub test : IsTermIn history work c.test
  pub steps : All (IsStepIn history work measure c.test) c.steps.items
  pub line : LineHasOnly work c.line (not_term (term_at work.bank c.test) ∷ (denied claim (substitutions_at work.bank c.steps.items) ++ (claim ∷ [])))

-- the line and the pairs of each substitution
abbrev pub contents_of : List InductionStep → List (ℕ × List Pair)
contents_of steps = map (λ s. (s.line, s.pairs.items)) steps
