use Rattle.std.proofs.Common.{length}
use Rattle.nq_decrease.proofs.own_nests.+nest_of_own.Given as goal

abbrev pub decreases-nest_of_own : goal.decreases-nest_of_own
decreases-nest_of_own l = length l.shells.now
