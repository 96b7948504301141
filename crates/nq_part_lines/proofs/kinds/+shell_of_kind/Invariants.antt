use Rattle.std.proofs.Common.{length}
use Rattle.nq_part_lines.proofs.kinds.+shell_of_kind.Given as goal

abbrev pub decreases-shell_of_kind : goal.decreases-shell_of_kind
decreases-shell_of_kind l = length l.shells.now
