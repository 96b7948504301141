-- How a proposition over variables fails that is false under some assignment: a SIMP to the clauses of the false assignments, and
-- from each of them IRR down to one literal.
use Rattle.std.specs.Prelude.{◌≡◌, true, List, [], ◌∷◌, ◌++◌, length, map, None}
use Rattle.nq_logic.specs.Terms.{Name, Term, Variable, IsTerm, IsAmong, Each}
use Rattle.nq_logic.specs.Words.{not_term}
use Rattle.nq_logic.specs.Names.{are_distinct}
use Rattle.nq_logic.specs.Histories.{History}
use Rattle.nq_logic.specs.Ground.{symbols_of}
use Rattle.nq_proof.specs.Clauses.{Clause}
use Rattle.nq_events.specs.Events.{Hints}
use Rattle.nq_fragments.specs.Propositions.{Proposition, proposition_of, others_in}
use Rattle.nq_goals.specs.declared.kinds.Cause.TheVariants.{NoInduction}
use Rattle.nq_goals.specs.declared.kinds.MoveKind.TheVariants.{Simp, Irr}
use Rattle.nq_goals.specs.Spent.{IsSpent}
use Rattle.nq_goals.specs.Trees.{Step, IsFailureTree}
use Rattle.nq_goals.specs.Forests.{step}
use Rattle.nq_decided.specs.Falsehoods.{false_clauses}

-- These steps, and then a step to the goal by IRR from the goal of the last of them, a step from there to what is left of it
-- without its first literal, and so on.
abbrev pub dropping_steps : Clause → List Step → List Step
dropping_steps [] old = old
dropping_steps (l ∷ rest) old = dropping_steps rest (old ++ step (length old) Irr (l ∷ rest) ∷ [])

-- the same from a goal without its first literal on
abbrev pub steps_below : Clause → List Step → List Step
steps_below [] old = old
steps_below (l ∷ rest) old = dropping_steps rest old

-- These steps, and then those of a clause to which a SIMP leads from the first goal.
abbrev pub clause_steps : Clause → List Step → List Step
clause_steps c old = steps_below c (old ++ step 0 Simp c ∷ [])

abbrev pub clauses_steps : List Clause → List Step → List Step
clauses_steps [] old = old
clauses_steps (c ∷ cs) old = clauses_steps cs (clause_steps c old)

-- all steps from a proposition over these terms
abbrev pub falsehood_steps : List Term → Proposition → List Step
falsehood_steps ts p = clauses_steps (false_clauses ts [] [] p) []

-- the goal of this literal alone is left over as a first goal
abbrev pub IsStuckAlone : History → Hints → Term → Type 0
IsStuckAlone h hints l = IsSpent h hints [] (l ∷ []) NoInduction

-- a variable is left over alone, and its NOT is
abbrev pub IsStuckName : History → Hints → Name → Type 0
IsStuckName h hints x = IsStuckAlone h hints (Variable x) × IsStuckAlone h hints (not_term (Variable x))

-- The steps are the tree of a failure, where there is a step. The other terms of the proposition are among these variables, of
-- which there is one.
abbrev pub FalsehoodsFail : Type 0
FalsehoodsFail =
    (h : History) (hints : Hints) (t : Term) (x : Name) (xs : List Name) → IsTerm (symbols_of h) t → hints.induct ≡ None → are_distinct (x ∷ xs) ≡ true →
    ((u : Term) → IsAmong u (others_in (proposition_of t)) → IsAmong u (map Variable (x ∷ xs))) → Each (IsStuckName h hints) (x ∷ xs) →
    (falsehood_steps (map Variable (x ∷ xs)) (proposition_of t) ≡ [] → ⊥) →
    IsFailureTree h hints (t ∷ []) (falsehood_steps (map Variable (x ∷ xs)) (proposition_of t)) NoInduction
