use Rattle.std.proofs.Common.{length}
use Rattle.nq_eliminate.proofs.images.+has_copies.Given as goal

abbrev pub decreases-has_copies : goal.decreases-has_copies
decreases-has_copies l = length l.calls.now
