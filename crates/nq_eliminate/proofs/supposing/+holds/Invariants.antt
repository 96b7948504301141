use Rattle.nq_eliminate.proofs.supposing.+holds.Given as goal

abbrev pub decreases-holds : goal.decreases-holds
decreases-holds l = l.p.0
