use Rattle.std.proofs.Common.{length}
use Rattle.nq_stuck.proofs.common.+has_balanced.Given as goal

abbrev pub decreases-has_balanced : goal.decreases-has_balanced
decreases-has_balanced l = length l.goal.now
