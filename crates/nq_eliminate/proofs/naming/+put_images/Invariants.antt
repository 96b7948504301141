use Rattle.std.proofs.Common.{length}
use Rattle.nq_eliminate.proofs.naming.+put_images.Given as goal

abbrev pub decreases-put_images : goal.decreases-put_images
decreases-put_images l = length l.own.now
