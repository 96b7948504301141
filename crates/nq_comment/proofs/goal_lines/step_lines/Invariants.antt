use Rattle.std.proofs.Common.{◌≡◌, ◌+◌, take}
use Rattle.nq_comment.specs.ReportViews.{steps_of}
use Rattle.nq_comment.specs.Text.{step_lines_from}
use Rattle.nq_comment.proofs.goal_lines.step_lines.Given as goal

abbrev pub invariant-loop-step : goal.invariant-loop-step
invariant-loop-step l = (l.text.items ≡ step_lines_from 1 (steps_of (take l.step-index l.steps))) × (l.number ≡ l.step-index + 1)
