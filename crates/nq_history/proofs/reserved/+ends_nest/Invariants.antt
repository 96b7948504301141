use Rattle.std.proofs.Common.{length}
use Rattle.nq_history.proofs.reserved.+ends_nest.Given as goal

abbrev pub decreases-ends_nest : goal.decreases-ends_nest
decreases-ends_nest l = length l.rest.now
