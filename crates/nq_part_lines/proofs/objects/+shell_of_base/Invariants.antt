use Rattle.std.proofs.Common.{length}
use Rattle.nq_part_lines.proofs.objects.+shell_of_base.Given as goal

abbrev pub decreases-shell_of_base : goal.decreases-shell_of_base
decreases-shell_of_base l = length l.shells.now
