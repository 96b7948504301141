use Rattle.std.proofs.Common.{length}
use Rattle.nq_stuck.proofs.common.+has_common.Given as goal

abbrev pub decreases-has_common : goal.decreases-has_common
decreases-has_common l = length l.these.now
