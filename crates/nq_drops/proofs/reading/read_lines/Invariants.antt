-- The lines so far, and those of the rest, are those of the text.
use Rattle.std.proofs.Common.{◌≡◌, ◌++◌, map, length}
use Rattle.nq_logtext.specs.Views.{view}
use Rattle.nq_log.specs.Logs.{cut_lines}
use Rattle.nq_drops.specs.Texts.{lines_found}
use Rattle.nq_drops.proofs.reading.read_lines.Given as goal

abbrev pub invariant-lines : goal.invariant-lines
invariant-lines l = map view l.lines.items ++ lines_found (cut_lines l.rest).0 ≡ lines_found (cut_lines l.text).0

abbrev pub decreases-lines : goal.decreases-lines
decreases-lines l = length l.rest
