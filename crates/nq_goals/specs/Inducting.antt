-- IND: induction by a scheme that some call suggests.
use Rattle.std.specs.Prelude.{◌≡◌, ℕ, if◌then◌else◌, List, [], ◌∷◌, ◌++◌, map, Option, Some, None}
use Rattle.nq_logic.specs.Terms.{Name, Term, IsAmong, Each, Substitution, substituted, value_at}
use Rattle.nq_logic.specs.Words.{call1, call2, not_term, and_term, implies_term, true_term}
use Rattle.nq_logic.specs.Formulas.{clause}
use Rattle.nq_logic.specs.Histories.{History, Definition}
use Rattle.nq_logic.specs.Shells.{either_of}
use Rattle.nq_logic.specs.Derivations.{Derivable}
use Rattle.nq_logic.specs.Admissible.{Call, calls_of, matched}
use Rattle.nq_logic.specs.RuleShapes.{and_parts, variables_of}
use Rattle.nq_logic.specs.Laws.{InductionCase}
use Rattle.nq_proof.specs.Clauses.{Clause}
use Rattle.nq_events.specs.Events.{Hints}
use Rattle.nq_events.specs.Inductions.{opened_by, arguments_of, suggests_induction}
use Rattle.nq_goals.specs.Replacing.{parts_in_all}
use Rattle.nq_goals.specs.Paths.{Above, inducted_goals}

abbrev pub suggesting_among : History → List Term → List Term
suggesting_among h [] = []
suggesting_among h (t ∷ ts) = if suggests_induction h t then t ∷ suggesting_among h ts else suggesting_among h ts

-- the calls of a goal that suggest an induction
abbrev pub suggesting_in : History → Clause → List Term
suggesting_in h goal = suggesting_among h (parts_in_all goal)

abbrev pub hinted_term : Option Term → List Clause → List Term
hinted_term None inducted = []
hinted_term (Some t) [] = t ∷ []
hinted_term (Some t) (g ∷ inducted) = []

-- The term of an INDUCT hint, before the first induction of the path. It is itself to suggest an induction: a call within it
-- counts for nothing.
abbrev pub hinted_call : History → Hints → Above → List Term
hinted_call h hints above = suggesting_among h (hinted_term hints.induct (inducted_goals above))

-- The calls that suggest an induction; before the first one the hint's term counts as a call of every goal.
abbrev pub suggestions : History → Hints → Above → Clause → List Term
suggestions h hints above goal = hinted_call h hints above ++ suggesting_in h goal

abbrev pub hinted_or : List Term → List Term → List Term
hinted_or [] calls = calls
hinted_or (t ∷ ts) calls = t ∷ ts

-- The calls by which a scheme may go: under the hint the first induction uses the hint's term.
abbrev pub scheme_calls : History → Hints → Above → Clause → List Term
scheme_calls h hints above goal = hinted_or (hinted_call h hints above) (suggesting_in h goal)

-- the goal as one term: its literal, or the right nest of OR of its literals
abbrev pub claim_of : Clause → Term
claim_of goal = either_of goal

-- the right nest of AND of the terms, or T
abbrev pub all_of : List Term → Term
all_of [] = true_term
all_of (t ∷ []) = t
all_of (t ∷ u ∷ rest) = and_term t (all_of (u ∷ rest))

-- a measure and the cases: their tests, and the substitutions at which the claim is supposed
pub record Scheme : Type 0 where
  pub measure : Term
  pub cases : List InductionCase

-- the first of them
abbrev pub first_substitution : List Substitution → Option Substitution
first_substitution [] = None
first_substitution (s ∷ rest) = Some s

-- the variables of the measure of a definition
abbrev pub measured_formals : Definition → List Name
measured_formals d = elim d.measure as (λ o. List Name) [ None ↦ [] | Some m ↦ variables_of m ]

abbrev pub all_parts : List Term → List Term
all_parts [] = []
all_parts (t ∷ ts) = and_parts t ++ all_parts ts

-- A case goes by a recursive call of the suggesting call: the governing tests of the recursive call, at the arguments of the
-- suggesting call, are among the AND parts of the test of the case, and the first substitution of the case sends the
-- measured variables where the recursive call does.
pub record GoesBy (h : History) (c : InductionCase) (suggesting : Term) : Type 0 where
  pub definition : Definition
  pub opened : opened_by h suggesting ≡ Some definition
  pub recursive : Call
  pub stands : IsAmong recursive (calls_of definition.function definition.body)
  pub tests : Each (λ part. IsAmong part (and_parts c.test)) (all_parts (map (substituted (matched definition.formals (arguments_of suggesting))) recursive.tests))
  pub first : List (List ℕ × Term)
  pub is_first : first_substitution c.substitutions ≡ Some first
  pub sends :
      Each (λ x. substituted first (value_at (matched definition.formals (arguments_of suggesting)) x)
      ≡ substituted (matched definition.formals (arguments_of suggesting)) (value_at (matched definition.formals recursive.arguments) x)) (measured_formals definition)

-- the measure falls at each substitution of the case, under its test
abbrev pub FallsIn : History → Term → InductionCase → Type 0
FallsIn h m c = Each (λ s. Derivable h (clause (not_term c.test ∷ call2 "ORD-LESSP" (substituted s m) m ∷ []))) c.substitutions

-- a case goes by one of these calls, and the measure falls in it
pub record IsCase (h : History) (calls : List Term) (m : Term) (c : InductionCase) : Type 0 where
  pub suggesting : Term
  pub among : IsAmong suggesting calls
  pub goes : GoesBy h c suggesting
  pub falls : FallsIn h m c

-- a scheme that these calls suggest: its measure is an ordinal and falls, and it has a case
pub record IsScheme (h : History) (calls : List Term) (s : Scheme) : Type 0 where
  pub ordinal : Derivable h (clause (call1 "ORDINALP" s.measure ∷ []))
  pub some_case : s.cases ≡ [] → ⊥
  pub cases : Each (IsCase h calls s.measure) s.cases

-- where no test holds, the claim
abbrev pub base_case : Term → List InductionCase → Term
base_case p cases = implies_term (all_of (map (λ c. not_term c.test) cases)) p

-- where the test and each instance of the claim hold, the claim
abbrev pub step_case : Term → InductionCase → Term
step_case p c = implies_term (all_of (c.test ∷ map (λ s. substituted s p) c.substitutions)) p

abbrev pub step_goals : Term → List InductionCase → List Clause
step_goals p [] = []
step_goals p (c ∷ cases) = (step_case p c ∷ []) ∷ step_goals p cases

-- the base case and every step case of the scheme, each as one literal
abbrev pub goals_of_scheme : Clause → Scheme → List Clause
goals_of_scheme goal s = (base_case (claim_of goal) s.cases ∷ []) ∷ step_goals (claim_of goal) s.cases

-- the base case and the step cases of a scheme that suggesting calls suggest
pub record InductMove (h : History) (hints : Hints) (above : Above) (goal : List Term) (nexts : List (List Term)) : Type 0 where
  pub scheme : Scheme
  pub suggested : IsScheme h (scheme_calls h hints above goal) scheme
  pub next : nexts ≡ goals_of_scheme goal scheme
