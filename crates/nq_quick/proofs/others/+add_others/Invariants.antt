use Rattle.nq_quick.proofs.others.+add_others.Given as goal

abbrev pub decreases-add_others : goal.decreases-add_others
decreases-add_others l = l.t.0
