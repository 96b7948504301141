-- Fewer literals are left.
use Rattle.std.proofs.Common.{◌+◌, ◌*◌, length}
use Rattle.nq_hinted.proofs.nests.+nesting.Given as goal

abbrev pub decreases-nest_of : goal.decreases-nest_of
decreases-nest_of l = 2 * length l.rest.now

abbrev pub decreases-nest_before : goal.decreases-nest_before
decreases-nest_before l = 2 * length l.more.now + 1
