use Rattle.nq_part_lines.proofs.reading.+summand_at.Given as goal

abbrev pub decreases-summand_at : goal.decreases-summand_at
decreases-summand_at l = l.place
