use Rattle.nq_log_tests.proofs.goals.+first_are_in.Given as goal

abbrev pub decreases-first_are_in : goal.decreases-first_are_in
decreases-first_are_in l = l.count
