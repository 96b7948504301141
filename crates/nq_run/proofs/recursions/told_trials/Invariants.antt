-- The trials so far are told.
use Rattle.std.proofs.Common.{◌≡◌, take}
use Rattle.nq_comment.specs.ReportViews.{trials_of}
use Rattle.nq_run.specs.Recursions.{trials_at}
use Rattle.nq_run.proofs.recursions.told_trials.Given as goal

abbrev pub invariant-loop-one : goal.invariant-loop-one
invariant-loop-one l = trials_of l.trials.items ≡ trials_at l.bank (take l.one-index l.left)
