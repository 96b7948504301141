-- Fewer literals are left.
use Rattle.std.proofs.Common.{length}
use Rattle.nq_induct.proofs.claims.+open_claim.Given as goal

abbrev pub decreases-open_claim : goal.decreases-open_claim
decreases-open_claim l = length l.goal.now
