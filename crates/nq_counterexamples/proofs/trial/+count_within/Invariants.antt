-- Each step goes one deeper.
use Rattle.nq_counterexamples.proofs.trial.+count_within.Given as goal

abbrev pub decreases-count_within : goal.decreases-count_within
decreases-count_within l = l.depth
