use Rattle.std.proofs.Common.{length}
use Rattle.nq_normal.proofs.open.+has_open_among.Given as goal

abbrev pub decreases-has_open_among : goal.decreases-has_open_among
decreases-has_open_among l = length l.goal.now
