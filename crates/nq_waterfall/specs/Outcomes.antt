-- What became of a first goal.
use Rattle.std.specs.Prelude.{◌≡◌, List, [], All, ⊤}
use Rattle.nq_bank.specs.declared.node.TermId.{TermId}
use Rattle.nq_bank.specs.Content.{terms_at}
use Rattle.nq_history.specs.declared.entry.Entry.{Entry}
use Rattle.nq_history.specs.declared.hints.Hints.{Hints}
use Rattle.nq_history.specs.Events.{events_at}
use Rattle.nq_kernel.specs.declared.work.Work.{Work}
use Rattle.nq_lines.specs.Lines.{LineHasOnly}
use Rattle.nq_goals.specs.Trees.{IsFailureTree}
use Rattle.nq_waterfall.specs.Kinds.{goal_cause}
use Rattle.nq_waterfall.specs.declared.trail.Trail.{Trail}
use Rattle.nq_waterfall.specs.declared.first.Outcome.{Outcome}
use Rattle.nq_waterfall.specs.declared.first.Outcome.TheVariants.{Proved, Failed, OutOfSteps, Unknown}
use Rattle.nq_event.specs.EventsAt.{hints_at}
use Rattle.nq_waterfall.specs.Trails.{steps_at, StepStands}
use Rattle.nq_traces.specs.Traces.{IsTrace}

-- there is nothing on the trail
pub record IsEmpty (trail : Trail) : Type 0 where
  pub path : trail.path.items ≡ []
  pub steps : trail.steps.items ≡ []
  pub trace : trail.trace.items ≡ []

-- A proof has a line with only the goal's literals, and its steps are a trace from the goal. A failure has a tree from the goal.
-- Where steps ran out, the counter is at its limit. Else nothing is told.
abbrev pub IsOutcome : List Entry → Hints → Work → List TermId → Outcome → Type 0
IsOutcome history hints work goal (Proved line trace) =
    LineHasOnly work line (terms_at work.bank goal) × All (StepStands work.bank) trace.items × IsTrace (events_at work.bank history) (hints_at work.bank hints) (terms_at work.bank goal) (steps_at work.bank trace.items)
IsOutcome history hints work goal (Failed steps cause) =
    All (StepStands work.bank) steps.items × IsFailureTree (events_at work.bank history) (hints_at work.bank hints) (terms_at work.bank goal) (steps_at work.bank steps.items) (goal_cause cause)
IsOutcome history hints work goal OutOfSteps = work.counter.used ≡ work.counter.limit
IsOutcome history hints work goal Unknown = ⊤
