use Rattle.nq_clause.proofs.instance.+is_number.Given as goal

abbrev pub decreases-is_number : goal.decreases-is_number
decreases-is_number l = l.pattern.0
