use Rattle.nq_part_lines.proofs.sums.+summand_line.Given as goal

abbrev pub decreases-summand_line : goal.decreases-summand_line
decreases-summand_line l = l.place
