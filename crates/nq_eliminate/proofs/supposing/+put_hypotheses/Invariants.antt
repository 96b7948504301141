use Rattle.nq_eliminate.proofs.supposing.+put_hypotheses.Given as goal

abbrev pub decreases-put_hypotheses : goal.decreases-put_hypotheses
decreases-put_hypotheses l = l.t.0
