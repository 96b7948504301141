-- What was taken so far was read, and no count of faults has fallen.
use Rattle.std.proofs.Common.{◌≤◌, ◌-◌, ◌^◌}
use Rattle.nq_check.specs.Checking.{Progress}
use Rattle.nq_check.proofs.checking.judge_text.Given as goal

abbrev pub invariant-pieces : goal.invariant-pieces
invariant-pieces g l =
    Progress l.fn.checker l.checker l.unfinished.items l.taken (g.S.Source.left l.fn.src) (g.S.Source.left l.src) (g.O.Sink.written l.fn.out) (g.O.Sink.written l.out)
    × (g.S.Source.faults l.fn.src ≤ g.S.Source.faults l.src) × (g.O.Sink.faults l.fn.out ≤ g.O.Sink.faults l.out)

abbrev pub decreases-pieces : goal.decreases-pieces
decreases-pieces g l = 2 ^ 62 - l.taken
