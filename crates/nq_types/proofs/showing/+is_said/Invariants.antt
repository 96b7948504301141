use Rattle.nq_types.proofs.showing.+is_said.Given as goal

abbrev pub decreases-is_said : goal.decreases-is_said
decreases-is_said l = l.literal.0
