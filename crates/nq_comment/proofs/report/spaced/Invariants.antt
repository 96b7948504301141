use Rattle.std.proofs.Common.{◌≡◌, take}
use Rattle.nq_comment.specs.ReportViews.{words_of}
use Rattle.nq_comment.specs.Text.{spaced}
use Rattle.nq_comment.proofs.report.spaced.Given as goal

abbrev pub invariant-loop-word : goal.invariant-loop-word
invariant-loop-word l = l.text.items ≡ spaced (words_of (take l.word-index l.words))
