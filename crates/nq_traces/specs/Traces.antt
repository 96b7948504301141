-- The trace of a proof: steps that are all legal.
use Rattle.std.specs.Prelude.{◌≡◌, ℕ, suc, true, List, [], ◌∷◌, ◌++◌, length, Some, slice_get, ◌⊎◌}
use Rattle.nq_logic.specs.Terms.{Term}
use Rattle.nq_logic.specs.Histories.{History}
use Rattle.nq_proof.specs.Clauses.{Clause}
use Rattle.nq_events.specs.Events.{Hints}
use Rattle.nq_goals.specs.declared.kinds.MoveKind.{MoveKind}
use Rattle.nq_goals.specs.Paths.{Above, passed}
use Rattle.nq_goals.specs.Moves.{IsMove}
use Rattle.nq_goals.specs.Trees.{Step, IsGoalAt, are_earlier}
use Rattle.nq_goals.specs.Forests.{step}

-- the goal is one of these
abbrev pub IsOneOf : Clause → List Clause → Type 0
IsOneOf goal [] = ⊥
IsOneOf goal (next ∷ nexts) = (goal ≡ next) ⊎ IsOneOf goal nexts

-- the step goes from the goal of its parent to one of the goals to which a move of its kind leads
pub record IsLegalStep (h : History) (hints : Hints) (first : List Term) (steps : List Step) (s : Step) : Type 0 where
  pub above : Above
  pub from : List Term
  pub nexts : List (List Term)
  pub stands : IsGoalAt first steps s.parent above from
  pub move : IsMove h hints above s.kind from nexts
  pub next : IsOneOf s.goal nexts

-- Each parent is an earlier number, and each step is legal.
pub record IsTrace (h : History) (hints : Hints) (first : List Term) (steps : List Step) : Type 0 where
  pub earlier : are_earlier 1 steps ≡ true
  pub legal : (k : ℕ) (s : Step) → slice_get steps k ≡ Some s → IsLegalStep h hints first steps s

-- The steps go on: where the old ones were a trace from a first goal, in which the goal stood at this number, the new ones are a
-- trace from it.
pub record TraceGoesOn (h : History) (hints : Hints) (above : Above) (goal : List Term) (number : ℕ) (old new : List Step) : Type 0 where
  pub more : List Step
  pub whole : new ≡ old ++ more
  pub legal : (first : List Term) → IsTrace h hints first old → IsGoalAt first old number above goal → IsTrace h hints first new

-- how a trace goes on
pub record TraceLaws : Type 0 where
  -- a trace without steps
  pub begun : (h : History) (hints : Hints) (first : List Term) → IsTrace h hints first []
  -- a goal of a trace stands in it however it goes on
  pub kept : (first : List Term) (old more : List Step) (number : ℕ) (above : Above) (goal : List Term) → IsGoalAt first old number above goal → IsGoalAt first (old ++ more) number above goal
  -- a step to one of the nexts of a move
  pub stepped : (h : History) (hints : Hints) (first : List Term) (old : List Step) (number : ℕ) (above : Above) (from : List Term) (kind : MoveKind) (nexts : List (List Term)) (next : List Term) →
      IsTrace h hints first old → IsGoalAt first old number above from → IsMove h hints above kind from nexts → IsOneOf next nexts →
      IsTrace h hints first (old ++ (step number kind next ∷ [])) × IsGoalAt first (old ++ (step number kind next ∷ [])) (suc (length old)) (passed from kind ∷ above) next
