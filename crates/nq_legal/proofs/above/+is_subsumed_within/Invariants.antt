use Rattle.std.proofs.Common.{length}
use Rattle.nq_legal.proofs.above.+is_subsumed_within.Given as goal

abbrev pub decreases-is_subsumed_within : goal.decreases-is_subsumed_within
decreases-is_subsumed_within l = length l.path.now
