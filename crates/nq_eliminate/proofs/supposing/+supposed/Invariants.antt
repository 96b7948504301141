use Rattle.nq_eliminate.proofs.supposing.+supposed.Given as goal

abbrev pub decreases-supposed : goal.decreases-supposed
decreases-supposed l = l.t.0
