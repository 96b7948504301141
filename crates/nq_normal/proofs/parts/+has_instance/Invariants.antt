use Rattle.std.proofs.Common.{length}
use Rattle.nq_normal.proofs.parts.+has_instance.Given as goal

abbrev pub decreases-has_instance : goal.decreases-has_instance
decreases-has_instance l = length l.goal.now
