use Rattle.std.proofs.Common.{length}
use Rattle.nq_eliminate.proofs.images.+has_other.Given as goal

abbrev pub decreases-has_other : goal.decreases-has_other
decreases-has_other l = length l.from.now
