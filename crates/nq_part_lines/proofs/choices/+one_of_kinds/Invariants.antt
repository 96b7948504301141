use Rattle.std.proofs.Common.{length}
use Rattle.nq_part_lines.proofs.choices.+one_of_kinds.Given as goal

abbrev pub decreases-one_of_kinds : goal.decreases-one_of_kinds
decreases-one_of_kinds l = length l.names.now
