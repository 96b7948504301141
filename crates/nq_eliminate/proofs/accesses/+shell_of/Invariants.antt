use Rattle.std.proofs.Common.{length}
use Rattle.nq_eliminate.proofs.accesses.+shell_of.Given as goal

abbrev pub decreases-shell_of : goal.decreases-shell_of
decreases-shell_of l = length l.shells.now
