use Rattle.std.proofs.Common.{length}
use Rattle.nq_stuck.proofs.shells.+is_constructor.Given as goal

abbrev pub decreases-is_constructor : goal.decreases-is_constructor
decreases-is_constructor l = length l.shells.now
