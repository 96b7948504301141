-- The tree of a failure, as the numbered list of its steps.
use Rattle.std.specs.Prelude.{◌≡◌, ◌<◌, ◌≤◌, ℕ, suc, nat_lt, nat_eq, Bool, true, ◌&&◌, if◌then◌else◌, List, [], ◌∷◌, length, Some, slice_get}
use Rattle.nq_logic.specs.Terms.{Term, Each}
use Rattle.nq_logic.specs.Formulas.{clause}
use Rattle.nq_logic.specs.Histories.{History}
use Rattle.nq_logic.specs.Derivations.{Derivable}
use Rattle.nq_proof.specs.Clauses.{Clause}
use Rattle.nq_events.specs.Events.{Hints}
use Rattle.nq_goals.specs.declared.kinds.MoveKind.{MoveKind}
use Rattle.nq_goals.specs.declared.kinds.Cause.{Cause}
use Rattle.nq_goals.specs.Paths.{Above, passed}
use Rattle.nq_goals.specs.Moves.{IsMove}
use Rattle.nq_goals.specs.Spent.{IsSpent}

-- A step from an earlier goal, its parent, by a move of this kind to a goal. The first goal has the number 0, and the steps are
-- numbered from 1.
pub record Step : Type 0 where
  pub parent : ℕ
  pub kind : MoveKind
  pub goal : List Term

-- whether each parent is an earlier number, where the first step of the list has the number n
abbrev pub are_earlier : ℕ → List Step → Bool
are_earlier n [] = true
are_earlier n (s ∷ steps) = nat_lt s.parent n && are_earlier (suc n) steps

-- the steps that have this parent, in the order of their numbers
abbrev pub steps_below : ℕ → List Step → List Step
steps_below n [] = []
steps_below n (s ∷ steps) = if nat_eq s.parent n then s ∷ steps_below n steps else steps_below n steps

abbrev pub goals_of : List Step → List Clause
goals_of [] = []
goals_of (s ∷ steps) = s.goal ∷ goals_of steps

-- the goal of this number, and the goals above it
pub data IsGoalAt (first : List Term) (steps : List Step) : ℕ → Above → List Term → Type 0 where
  at_first : IsGoalAt first steps 0 [] first
  at_step : (k parent : ℕ) (kind : MoveKind) (above : Above) (from goal : List Term) → slice_get steps k ≡ Some (record { parent = parent; kind = kind; goal = goal }) →
      IsGoalAt first steps parent above from → IsGoalAt first steps (suc k) (passed from kind ∷ above) goal

-- The second list is what is left of the first once goals that are derivable are taken off.
pub data IsLeftOf (h : History) : List (List Term) → List (List Term) → Type 0 where
  none : IsLeftOf h [] []
  left : (goal : List Term) {nexts goals : List (List Term)} → IsLeftOf h nexts goals → IsLeftOf h (goal ∷ nexts) (goal ∷ goals)
  proved : (goal : List Term) {nexts goals : List (List Term)} → Derivable h (clause goal) → IsLeftOf h nexts goals → IsLeftOf h (goal ∷ nexts) goals

-- What became of a goal that has these steps below it: it was led on by one move of their kind, whose nexts are the goals of
-- these steps and further goals that are derivable; or there are none, and it is left over.
pub data Fate (h : History) (hints : Hints) (above : Above) (goal : List Term) : List Step → Type 0 where
  led_on : (kind : MoveKind) (nexts : List (List Term)) (s : Step) (steps : List Step) → Each (λ step. step.kind ≡ kind) (s ∷ steps) → IsMove h hints above kind goal nexts →
      IsLeftOf h nexts (goals_of (s ∷ steps)) → Fate h hints above goal (s ∷ steps)
  left_over : (cause : Cause) → IsSpent h hints above goal cause → Fate h hints above goal []

-- the goal of this number has its fate
pub record IsSettled (h : History) (hints : Hints) (first : List Term) (steps : List Step) (n : ℕ) : Type 0 where
  pub above : Above
  pub goal : List Term
  pub stands : IsGoalAt first steps n above goal
  pub fate : Fate h hints above goal (steps_below n steps)

-- the goal of the least number that has no steps below it is left over for this cause
pub record IsFirstLeftOver (h : History) (hints : Hints) (first : List Term) (steps : List Step) (cause : Cause) : Type 0 where
  pub number : ℕ
  pub above : Above
  pub goal : List Term
  pub stands : IsGoalAt first steps number above goal
  pub none_below : steps_below number steps ≡ []
  pub least : (m : ℕ) → m < number → steps_below m steps ≡ [] → ⊥
  pub spent : IsSpent h hints above goal cause

-- The steps are a tree of a failure from the first goal, for this cause.
pub record IsFailureTree (h : History) (hints : Hints) (first : List Term) (steps : List Step) (cause : Cause) : Type 0 where
  pub earlier : are_earlier 1 steps ≡ true
  pub settled : (n : ℕ) → n ≤ length steps → IsSettled h hints first steps n
  pub caused : IsFirstLeftOver h hints first steps cause
