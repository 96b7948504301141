-- What holds of the work wherever goals are moved.
use Rattle.std.specs.Prelude.{ℕ, List, All}
use Rattle.nq_bank.specs.declared.node.TermId.{TermId}
use Rattle.nq_bank.specs.Content.{terms_at}
use Rattle.nq_logic.specs.Formulas.{clause}
use Rattle.nq_logic.specs.Derivations.{Derivable}
use Rattle.nq_history.specs.declared.entry.Entry.{Entry}
use Rattle.nq_history.specs.declared.hints.Hints.{Hints}
use Rattle.nq_history.specs.Events.{events_at}
use Rattle.nq_history.specs.Hints.{HintsStand}
use Rattle.nq_kernel.specs.declared.work.Work.{Work}
use Rattle.nq_kernel.specs.Growing.{WorkStands}
use Rattle.nq_kernel.specs.Ready.{IsReady, WorkHolds}
use Rattle.nq_kernel.specs.ReadyLaws.{ReadyGrown, GrownWorkHolds}
use Rattle.nq_kernel.specs.Hints.{HintsAreIn}
use Rattle.nq_lines.specs.Lines.{IsTermIn, LineHasOnly}
use Rattle.nq_waterfall.specs.declared.trail.Ancestor.{Ancestor}

-- What a prover may assume of the history, of the lines that stand, and of the hints. This is all that is asked where goals are
-- moved.
pub record CanMove (history : List Entry) (hints : Hints) (work : Work) : Type 0 where
  pub stands : WorkStands history work
  pub ready : IsReady (events_at work.bank history)
  pub holds : WorkHolds history work
  pub hints_stand : HintsStand work.bank hints
  pub hints_in : HintsAreIn work.bank history hints

-- each literal of the goal is over the history's functions, with variables that a log can spell
abbrev pub IsGoalIn : List Entry → Work → List TermId → Type 0
IsGoalIn history work goal = All (IsTermIn history work) goal

-- so is each literal of the goals on a way down
abbrev pub IsPathIn : List Entry → Work → List Ancestor → Type 0
IsPathIn history work path = All (λ above. IsGoalIn history work above.goal.items) path

-- A ready history stays ready, and lines stay derivable, however the work grows. A goal is derivable of which a line has only
-- literals.
pub record HoldingLaws : Type 0 where
  pub ready : ReadyGrown
  pub grown : GrownWorkHolds
  pub derivable : (history : List Entry) (work : Work) (goal : List TermId) (line : ℕ) → WorkHolds history work → IsGoalIn history work goal → LineHasOnly work line (terms_at work.bank goal) →
      Derivable (events_at work.bank history) (clause (terms_at work.bank goal))
