use Rattle.std.proofs.Common.{length}
use Rattle.nq_stuck.proofs.shells.+is_part.Given as goal

abbrev pub decreases-is_part : goal.decreases-is_part
decreases-is_part l = length l.parts.now
