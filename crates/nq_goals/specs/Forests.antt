-- The tree of a failure as a solver grows it, depth first: what stands below a goal is a forest, and its steps are numbered in
-- preorder.
use Rattle.std.specs.Prelude.{◌≡◌, ℕ, suc, ◌+◌, List, [], ◌∷◌, ◌++◌, ⊤}
use Rattle.nq_logic.specs.Terms.{Term}
use Rattle.nq_logic.specs.Histories.{History}
use Rattle.nq_proof.specs.Clauses.{Clause}
use Rattle.nq_events.specs.Events.{Hints}
use Rattle.nq_goals.specs.declared.kinds.MoveKind.{MoveKind}
use Rattle.nq_goals.specs.declared.kinds.MoveKind.TheVariants.{Simp}
use Rattle.nq_goals.specs.declared.kinds.Cause.{Cause}
use Rattle.nq_goals.specs.Paths.{Above, passed}
use Rattle.nq_goals.specs.Moves.{IsMove}
use Rattle.nq_goals.specs.Spent.{IsSpent}
use Rattle.nq_goals.specs.Trees.{Step, IsLeftOf, IsFailureTree}

-- What stands below a goal: nothing, or a goal to which a move of this kind led, with what stands below it, and then the further
-- goals beside it.
pub data Forest : Type 0 where
  Nothing : Forest
  Goal : (kind : MoveKind) (goal : List Term) (below beside : Forest) → Forest

abbrev pub size : Forest → ℕ
size Nothing = 0
size (Goal _ goal below beside) = suc (size below + size beside)

-- the goals that stand at the top of a forest
abbrev pub tops : Forest → List Clause
tops Nothing = []
tops (Goal _ goal below beside) = goal ∷ tops beside

-- one forest beside another
abbrev pub beside_of : Forest → Forest → Forest
beside_of Nothing g = g
beside_of (Goal kind goal below beside) g = Goal kind goal below (beside_of beside g)

abbrev pub step : ℕ → MoveKind → Clause → Step
step parent kind goal = record { parent = parent; kind = kind; goal = goal }

-- the steps of a forest below the goal of this number, in preorder, numbered from n
abbrev pub numbered : (parent n : ℕ) → Forest → List Step
numbered parent n Nothing = []
numbered parent n (Goal kind goal below beside) = step parent kind goal ∷ (numbered n (suc n) below ++ numbered parent (suc (n + size below)) beside)

-- the goal has this forest below it: it is spent, or one move led to the tops and to goals that are derivable
abbrev pub IsLedTo : History → Hints → Above → List Term → Forest → Type 0
IsLedTo h hints above goal Nothing = (cause : Cause) × IsSpent h hints above goal cause
IsLedTo h hints above goal (Goal kind next below beside) =
    (nexts : List (List Term)) × IsMove h hints above kind goal nexts × IsLeftOf h nexts (next ∷ tops beside)

-- by what kind of move the tops were led to; where there is none this is never asked
abbrev pub kind_of : Forest → MoveKind
kind_of Nothing = Simp
kind_of (Goal kind goal below beside) = kind

-- each top of the forest is of this kind, and each goal in it has its forest below it
abbrev pub AreUnsolved : History → Hints → Above → MoveKind → Forest → Type 0
AreUnsolved h hints above _ Nothing = ⊤
AreUnsolved h hints above kind (Goal k goal below beside) =
    (k ≡ kind) × IsLedTo h hints above goal below × AreUnsolved h hints (passed goal (kind_of below) ∷ above) (kind_of below) below
    × AreUnsolved h hints above kind beside

-- the goal that is left over first, down the first tops, is spent for this cause
abbrev pub IsFirstCause : History → Hints → Above → Clause → Forest → Cause → Type 0
IsFirstCause h hints above goal Nothing cause = IsSpent h hints above goal cause
IsFirstCause h hints above goal (Goal kind next below beside) cause = IsFirstCause h hints (passed goal kind ∷ above) next below cause

-- the goal with this forest below it was not solved, and the first goal that is left over is so for this cause
pub record IsUnsolved (h : History) (hints : Hints) (above : Above) (goal : List Term) (forest : Forest) (cause : Cause) : Type 0 where
  pub led : IsLedTo h hints above goal forest
  pub below : AreUnsolved h hints (passed goal (kind_of forest) ∷ above) (kind_of forest) forest
  pub caused : IsFirstCause h hints above goal forest cause

-- The steps of an unsolved first goal in preorder are a tree of a failure. This is what a solver keeps that goes depth first:
-- it pushes the step of a goal, solves the goal below it, and takes the step off with all below it where the goal was proved.
abbrev pub UnsolvedIsFailureTree : Type 0
UnsolvedIsFailureTree =
    (h : History) (hints : Hints) (first : List Term) (forest : Forest) (cause : Cause) → IsUnsolved h hints [] first forest cause →
    IsFailureTree h hints first (numbered 0 1 forest) cause
