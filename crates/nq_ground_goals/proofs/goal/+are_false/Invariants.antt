use Rattle.std.proofs.Common.{length}
use Rattle.nq_ground_goals.proofs.goal.+are_false.Given as goal

abbrev pub decreases-are_false : goal.decreases-are_false
decreases-are_false l = length l.goal.now
