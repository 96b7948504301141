use Rattle.std.proofs.Common.{length}
use Rattle.nq_eliminate.proofs.images.+image.Given as goal

abbrev pub decreases-image : goal.decreases-image
decreases-image l = length l.from.now
