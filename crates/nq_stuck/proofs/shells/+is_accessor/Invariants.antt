use Rattle.std.proofs.Common.{length}
use Rattle.nq_stuck.proofs.shells.+is_accessor.Given as goal

abbrev pub decreases-is_accessor : goal.decreases-is_accessor
decreases-is_accessor l = length l.shells.now
