-- The steps so far are shown.
use Rattle.std.proofs.Common.{◌≡◌, take}
use Rattle.nq_comment.specs.ReportViews.{steps_of}
use Rattle.nq_answers.specs.Shown.{shown_steps}
use Rattle.nq_waterfall.specs.Trails.{steps_at}
use Rattle.nq_giving_up.proofs.shown.shown_steps.Given as goal

abbrev pub invariant-loop-step : goal.invariant-loop-step
invariant-loop-step l = steps_of l.shown.items ≡ shown_steps (steps_at l.bank (take l.step-index l.steps))
