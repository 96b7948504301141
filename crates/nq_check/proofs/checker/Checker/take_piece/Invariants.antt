-- The lines so far were read, and their claims written; what is left of the piece stands behind no line feed yet.
use Rattle.std.proofs.Common.{◌≤◌, ◌++◌, length}
use Rattle.nq_log.specs.Blocks.{HasNoLineFeed}
use Rattle.nq_check.specs.Passing.{Passed}
use Rattle.nq_check.proofs.checker.Checker.take_piece.Given as goal

abbrev pub invariant-lines : goal.invariant-lines
invariant-lines g l =
    Passed l.fn.self l.self (l.fn.unfinished.items ++ l.fn.piece) (l.unfinished.items ++ l.rest) (g.O.Sink.written l.fn.out) (g.O.Sink.written l.out)
    × HasNoLineFeed l.unfinished.items × (g.O.Sink.faults l.fn.out ≤ g.O.Sink.faults l.out)

abbrev pub decreases-lines : goal.decreases-lines
decreases-lines g l = length l.rest
