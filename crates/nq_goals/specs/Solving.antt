-- What a solver that goes depth first keeps of its steps, and the laws by which it goes on. It pushes the step of a next goal,
-- solves that goal, and takes the step off with all below it where the goal was proved.
use Rattle.std.specs.Prelude.{◌≡◌, ℕ, suc, List, [], ◌∷◌, ◌++◌, length, Option, Some, None, ⊤}
use Rattle.nq_logic.specs.Terms.{Term, Each}
use Rattle.nq_logic.specs.Formulas.{clause}
use Rattle.nq_logic.specs.Histories.{History}
use Rattle.nq_logic.specs.Derivations.{Derivable}
use Rattle.nq_events.specs.Events.{Hints}
use Rattle.nq_goals.specs.declared.kinds.MoveKind.{MoveKind}
use Rattle.nq_goals.specs.declared.kinds.Cause.{Cause}
use Rattle.nq_goals.specs.Paths.{Above, passed}
use Rattle.nq_goals.specs.Moves.{IsMove}
use Rattle.nq_goals.specs.Spent.{IsSpent}
use Rattle.nq_goals.specs.Trees.{Step, IsLeftOf, IsFailureTree}
use Rattle.nq_goals.specs.Forests.{Forest, Nothing, Goal, tops, step, numbered, AreUnsolved, IsFirstCause, IsUnsolved}

-- The goal of this number was not solved: behind the steps that were there now stand those of a forest below it, and the first
-- goal that is left over is so for this cause.
pub record LeavesUnsolved (h : History) (hints : Hints) (above : Above) (goal : List Term) (number : ℕ) (old new : List Step) (cause : Cause) : Type 0 where
  pub forest : Forest
  pub unsolved : IsUnsolved h hints above goal forest cause
  pub steps : new ≡ old ++ numbered number (suc (length old)) forest

-- the cause of the first top of a forest, if there is one
abbrev pub IsCauseOf : History → Hints → Above → Forest → Option Cause → Type 0
IsCauseOf h hints above Nothing None = ⊤
IsCauseOf h hints above Nothing (Some cause) = ⊥
IsCauseOf h hints above (Goal _ goal below beside) None = ⊥
IsCauseOf h hints above (Goal _ goal below beside) (Some cause) = IsFirstCause h hints above goal below cause

-- The goal of this number is led on by a move of this kind, and these nexts of it were tried. Those that were not proved stand
-- behind the old steps with what is below them, and the cause is that of the first of them.
pub record HasTried (h : History) (hints : Hints) (above : Above) (goal : List Term) (kind : MoveKind) (number : ℕ) (tried : List (List Term)) (old now : List Step) (cause : Option Cause)
    : Type 0 where
  pub forest : Forest
  pub unsolved : AreUnsolved h hints (passed goal kind ∷ above) kind forest
  pub left : IsLeftOf h tried (tops forest)
  pub steps : now ≡ old ++ numbered number (suc (length old)) forest
  pub caused : IsCauseOf h hints (passed goal kind ∷ above) forest cause

-- the cause that was there before, or else this one
abbrev pub first_cause : Option Cause → Cause → Cause
first_cause None cause = cause
first_cause (Some earlier) cause = earlier

-- how a solver goes on
pub record SolverLaws : Type 0 where
  -- a spent goal adds no step
  pub spent : (h : History) (hints : Hints) (above : Above) (goal : List Term) (number : ℕ) (old : List Step) (cause : Cause) →
      IsSpent h hints above goal cause → LeavesUnsolved h hints above goal number old old cause
  -- before the first next
  pub begun : (h : History) (hints : Hints) (above : Above) (goal : List Term) (kind : MoveKind) (number : ℕ) (old : List Step) →
      HasTried h hints above goal kind number [] old old None
  -- a next that was proved, its step taken off
  pub proved : (h : History) (hints : Hints) (above : Above) (goal : List Term) (kind : MoveKind) (number : ℕ) (tried : List (List Term)) (old now : List Step) (cause : Option Cause)
      (next : List Term) → HasTried h hints above goal kind number tried old now cause → Derivable h (clause next) →
      HasTried h hints above goal kind number (tried ++ (next ∷ [])) old now cause
  -- a next that was not solved: its step was pushed, and then what is below it
  pub unsolved : (h : History) (hints : Hints) (above : Above) (goal : List Term) (kind : MoveKind) (number : ℕ) (tried : List (List Term)) (old now new : List Step) (before : Option Cause)
      (cause : Cause) (next : List Term) → HasTried h hints above goal kind number tried old now before →
      LeavesUnsolved h hints (passed goal kind ∷ above) next (suc (length now)) (now ++ (step number kind next ∷ [])) new cause →
      HasTried h hints above goal kind number (tried ++ (next ∷ [])) old new (Some (first_cause before cause))
  -- all nexts were tried, and some were not proved
  pub left_over : (h : History) (hints : Hints) (above : Above) (goal : List Term) (kind : MoveKind) (number : ℕ) (nexts : List (List Term)) (old now : List Step) (cause : Cause) →
      IsMove h hints above kind goal nexts → HasTried h hints above goal kind number nexts old now (Some cause) → LeavesUnsolved h hints above goal number old now cause
  -- all nexts were proved
  pub all_proved : (h : History) (hints : Hints) (above : Above) (goal : List Term) (kind : MoveKind) (number : ℕ) (nexts : List (List Term)) (old now : List Step) →
      HasTried h hints above goal kind number nexts old now None → (now ≡ old) × Each (λ next. Derivable h (clause next)) nexts
  -- the steps of a first goal that was not solved are the tree of a failure
  pub failed : (h : History) (hints : Hints) (first : List Term) (steps : List Step) (cause : Cause) →
      LeavesUnsolved h hints [] first 0 [] steps cause → IsFailureTree h hints first steps cause
