-- Fewer literals are left.
use Rattle.std.proofs.Common.{◌+◌, ◌*◌, length}
use Rattle.nq_hinted.proofs.nests.+opening.Given as goal

abbrev pub decreases-open_nest : goal.decreases-open_nest
decreases-open_nest l = 2 * length l.rest.now

abbrev pub decreases-open_before : goal.decreases-open_before
decreases-open_before l = 2 * length l.more.now + 1
