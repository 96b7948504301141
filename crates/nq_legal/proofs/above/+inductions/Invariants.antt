use Rattle.std.proofs.Common.{length}
use Rattle.nq_legal.proofs.above.+inductions.Given as goal

abbrev pub decreases-inductions : goal.decreases-inductions
decreases-inductions l = length l.path.now
