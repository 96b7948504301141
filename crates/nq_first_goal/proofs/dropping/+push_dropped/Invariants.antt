use Rattle.std.proofs.Common.{length}
use Rattle.nq_first_goal.proofs.dropping.+push_dropped.Given as goal

abbrev pub decreases-push_dropped : goal.decreases-push_dropped
decreases-push_dropped l = length l.goal.now
