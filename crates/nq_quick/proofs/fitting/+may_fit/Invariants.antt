use Rattle.nq_quick.proofs.fitting.+may_fit.Given as goal

abbrev pub decreases-may_fit : goal.decreases-may_fit
decreases-may_fit l = l.levels
