-- Fewer literals are left.
use Rattle.std.proofs.Common.{◌+◌, ◌*◌, length}
use Rattle.nq_first_goal.proofs.falsehoods.+alone.Given as goal

abbrev pub decreases-are_stuck : goal.decreases-are_stuck
decreases-are_stuck l = 2 * length l.literals.now

abbrev pub decreases-are_stuck_from : goal.decreases-are_stuck_from
decreases-are_stuck_from l = 2 * length l.rest.now + 1
