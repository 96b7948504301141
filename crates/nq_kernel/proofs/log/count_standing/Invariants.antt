-- What is counted, and what of the rest will be, are all.
use Rattle.std.proofs.Common.{◌≡◌, ◌≤◌, ◌+◌, drop}
use Rattle.nq_kernel.specs.Lines.{live_lines}
use Rattle.nq_kernel.proofs.log.count_standing.Given as goal

abbrev pub invariant-loop-line : goal.invariant-loop-line
invariant-loop-line l =
    record {
      fits : l.standing ≤ l.line-index;
      all : l.standing + live_lines (drop l.line-index l.lines) ≡ live_lines l.lines;
    }
