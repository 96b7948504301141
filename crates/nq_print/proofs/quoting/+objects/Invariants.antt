use Rattle.std.proofs.Common.{◌+◌}
use Rattle.nq_print.proofs.quoting.+objects.Given as goal

-- a tail may be an object itself
abbrev pub decreases-write_object : goal.decreases-write_object
decreases-write_object l = l.t.0 + l.t.0

abbrev pub decreases-write_tail : goal.decreases-write_tail
decreases-write_tail l = l.t.0 + l.t.0 + 1
