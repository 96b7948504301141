-- The path of a goal: the goals from the first one down to it, and the kinds of the moves between them.
use Rattle.std.specs.Prelude.{ℕ, Bool, true, false, if◌then◌else◌, List, [], ◌∷◌, length, map}
use Rattle.nq_logic.specs.Terms.{Term}
use Rattle.nq_proof.specs.Clauses.{Clause}
use Rattle.nq_goals.specs.declared.kinds.MoveKind.{MoveKind}
use Rattle.nq_goals.specs.declared.kinds.MoveKind.TheVariants.{Simp, Subst, Elim, Fert, Gen, Irr, Ind}

-- a goal that was led on by a move of this kind
pub record Passed : Type 0 where
  pub goal : List Term
  pub kind : MoveKind

-- the goals above a goal, the nearest first and the first goal last
abbrev pub Above : Type 0
Above = List Passed

abbrev pub passed : Clause → MoveKind → Passed
passed goal kind = record { goal = goal; kind = kind }

abbrev pub is_induction : MoveKind → Bool
is_induction Simp = false
is_induction Subst = false
is_induction Elim = false
is_induction Fert = false
is_induction Gen = false
is_induction Irr = false
is_induction Ind = true

-- the earlier goals to which induction was applied
abbrev pub inducted_goals : Above → List Clause
inducted_goals [] = []
inducted_goals (p ∷ above) = if is_induction p.kind then p.goal ∷ inducted_goals above else inducted_goals above

-- how many inductions the path holds
abbrev pub inductions : Above → ℕ
inductions above = length (inducted_goals above)

-- the goals above a goal alone
abbrev pub goals_above : Above → List Clause
goals_above above = map (λ p. p.goal) above
