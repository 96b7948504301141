-- What a solver makes of a goal.
use Rattle.std.specs.Prelude.{◌≡◌, ℕ, suc, List, [], ◌∷◌, ◌++◌, length, take, Vec, Option, Some, None, unwrap_or, ⊤}
use Rattle.std.specs.Option.{option_map}
use Rattle.std.specs.declared.alloc.Global.{Global}
use Rattle.nq_bank.specs.declared.node.TermId.{TermId}
use Rattle.nq_bank.specs.Content.{Content, terms_at}
use Rattle.nq_proof.specs.Clauses.{Clause}
use Rattle.nq_history.specs.declared.entry.Entry.{Entry}
use Rattle.nq_history.specs.declared.hints.Hints.{Hints}
use Rattle.nq_history.specs.Events.{events_at}
use Rattle.nq_kernel.specs.declared.work.Work.{Work}
use Rattle.nq_lines.specs.Lines.{LineHasOnly}
use Rattle.nq_kernel.specs.declared.verdict.MoveKind.{MoveKind}
use Rattle.nq_kernel.specs.declared.verdict.Cause.{Cause}
use Rattle.nq_goals.specs.Trees.{Step}
use Rattle.nq_goals.specs.Forests.{step}
use Rattle.nq_goals.specs.Solving.{LeavesUnsolved, HasTried}
use Rattle.nq_waterfall.specs.Kinds.{goal_kind, goal_cause}
use Rattle.nq_waterfall.specs.declared.trail.Ancestor.{Ancestor}
use Rattle.nq_kernel.specs.declared.verdict.PathStep.{PathStep}
use Rattle.nq_waterfall.specs.declared.trail.Trail.{Trail}
use Rattle.nq_waterfall.specs.declared.solving.Tried.{Tried}
use Rattle.nq_waterfall.specs.declared.solving.Solved.{Solved}
use Rattle.nq_waterfall.specs.declared.solving.Solved.TheVariants.{Proved, Unsolved}
use Rattle.nq_event.specs.EventsAt.{hints_at}
use Rattle.nq_waterfall.specs.Trails.{goals_at, above_at, steps_at, TrailStands}
use Rattle.nq_traces.specs.Traces.{TraceGoesOn}
use Rattle.nq_waterfall.specs.Turns.{HaveLines}

-- the goal of this number was not solved
abbrev pub LeavesAt : Content → List Entry → Hints → List Ancestor → List TermId → ℕ → (old new : List Step) → Cause → Type 0
LeavesAt bank history hints path goal number old new cause =
    LeavesUnsolved (events_at bank history) (hints_at bank hints) (above_at bank path) (terms_at bank goal) number old new (goal_cause cause)

-- these nexts of the goal of this number were tried
abbrev pub TriedAt : Content → List Entry → Hints → List Ancestor → List TermId → MoveKind → ℕ → List (Vec TermId Global) → (old now : List Step) → Option Cause → Type 0
TriedAt bank history hints path goal kind number tried old now cause =
    HasTried (events_at bank history) (hints_at bank hints) (above_at bank path) (terms_at bank goal) (goal_kind kind) number (goals_at bank tried) old now (option_map goal_cause cause)

-- the trace goes on below the goal that stands at this number of it
abbrev pub GoesOnAt : Content → List Entry → Hints → List Ancestor → List TermId → ℕ → (old new : List PathStep) → Type 0
GoesOnAt bank history hints path goal number old new =
    TraceGoesOn (events_at bank history) (hints_at bank hints) (above_at bank path) (terms_at bank goal) number (steps_at bank old) (steps_at bank new)

-- A goal is proved by a line with only its literals, and the steps are as before; or it is not solved.
abbrev pub IsSolved : List Entry → Hints → Work → (old new : Trail) → List TermId → ℕ → Solved → Type 0
IsSolved history hints work old new goal number (Proved line) = LineHasOnly work line (terms_at work.bank goal) × (steps_at work.bank new.steps.items ≡ steps_at work.bank old.steps.items)
IsSolved history hints work old new goal number (Unsolved cause) =
    LeavesAt work.bank history hints old.path.items goal number (steps_at work.bank old.steps.items) (steps_at work.bank new.steps.items) cause

-- What is so of the trail, whatever was made of the goal: the goals above are as before, and the trace goes on.
pub record TrailGoesOn (history : List Entry) (hints : Hints) (work : Work) (old new : Trail) (goal : List TermId) (place : ℕ) : Type 0 where
  pub path : new.path.items ≡ old.path.items
  pub stands : TrailStands work.bank new
  pub trace : GoesOnAt work.bank history hints old.path.items goal place old.trace.items new.trace.items

-- The step to a next goal is added, by a move of this kind from the goal of this number. The next is proved, and the step is
-- taken off again; or it is not solved, and what is below it stands behind its step.
abbrev pub IsNextSolved : List Entry → Hints → Work → (old new : Trail) → ℕ → MoveKind → List TermId → Solved → Type 0
IsNextSolved history hints work old new number _ next (Proved line) = LineHasOnly work line (terms_at work.bank next) × (steps_at work.bank new.steps.items ≡ steps_at work.bank old.steps.items)
IsNextSolved history hints work old new number kind next (Unsolved cause) =
    LeavesAt work.bank history hints old.path.items next (suc (length old.steps.items))
    (steps_at work.bank old.steps.items ++ (step number (goal_kind kind) (terms_at work.bank next) ∷ [])) (steps_at work.bank new.steps.items) cause

-- The goals above are as before, and the trace goes on below the step to the next.
pub record NextGoesOn (history : List Entry) (hints : Hints) (work : Work) (old new : Trail) (place : ℕ) (kind : MoveKind) (next : List TermId) : Type 0 where
  pub path : new.path.items ≡ old.path.items
  pub stands : TrailStands work.bank new
  pub trace : TraceGoesOn (events_at work.bank history) (hints_at work.bank hints) (above_at work.bank old.path.items) (terms_at work.bank next) (suc (length old.trace.items))
      (steps_at work.bank old.trace.items ++ (step place (goal_kind kind) (terms_at work.bank next) ∷ [])) (steps_at work.bank new.trace.items)

-- where no goal is left over, each has a line
abbrev pub AreClosed : Work → List Clause → List ℕ → Option Cause → Type 0
AreClosed work goals lines None = HaveLines work goals lines
AreClosed work goals lines (Some cause) = ⊤

-- what became of a goal is noted
abbrev pub IsNoted : (old new : Tried) → Solved → Type 0
IsNoted old new (Proved line) = (new.lines.items ≡ old.lines.items ++ line ∷ []) × (new.cause ≡ old.cause)
IsNoted old new (Unsolved cause) = new.cause ≡ Some (unwrap_or old.cause cause)

-- the steps behind the first are taken off where the goal was proved
abbrev pub IsCutBack : (old new : List PathStep) → ℕ → Solved → Type 0
IsCutBack old new count (Proved line) = new ≡ take count old
IsCutBack old new count (Unsolved cause) = new ≡ old
