-- Each step goes one deeper.
use Rattle.nq_counterexamples.proofs.trial.+are_same_within.Given as goal

abbrev pub decreases-are_same_within : goal.decreases-are_same_within
decreases-are_same_within l = l.depth
