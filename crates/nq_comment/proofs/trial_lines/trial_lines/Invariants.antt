use Rattle.std.proofs.Common.{◌≡◌, take}
use Rattle.std.specs.List.{flat_map}
use Rattle.nq_comment.specs.ReportViews.{trials_of}
use Rattle.nq_comment.specs.Text.{trial_line}
use Rattle.nq_comment.proofs.trial_lines.trial_lines.Given as goal

abbrev pub invariant-loop-trial : goal.invariant-loop-trial
invariant-loop-trial l = l.text.items ≡ flat_map trial_line (trials_of (take l.trial-index l.trials))
