-- Fewer literals are left.
use Rattle.std.proofs.Common.{length}
use Rattle.nq_induct.proofs.claims.+gather.Given as goal

abbrev pub decreases-gather : goal.decreases-gather
decreases-gather l = length l.goal.now
