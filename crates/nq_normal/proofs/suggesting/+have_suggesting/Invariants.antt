use Rattle.std.proofs.Common.{length}
use Rattle.nq_normal.proofs.suggesting.+have_suggesting.Given as goal

abbrev pub decreases-have_suggesting : goal.decreases-have_suggesting
decreases-have_suggesting l = length l.goal.now
