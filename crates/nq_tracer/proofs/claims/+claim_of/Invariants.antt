-- Fewer literals are left.
use Rattle.std.proofs.Common.{length}
use Rattle.nq_tracer.proofs.claims.+claim_of.Given as goal

abbrev pub decreases-claim_of : goal.decreases-claim_of
decreases-claim_of l = length l.goal.now
