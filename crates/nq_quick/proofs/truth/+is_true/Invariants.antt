use Rattle.nq_quick.proofs.truth.+is_true.Given as goal

abbrev pub decreases-is_true : goal.decreases-is_true
decreases-is_true l = l.t.0
