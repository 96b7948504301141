use Rattle.std.proofs.Common.{length}
use Rattle.nq_stuck.proofs.common.+has_repeated.Given as goal

abbrev pub decreases-has_repeated : goal.decreases-has_repeated
decreases-has_repeated l = length l.goal.now
