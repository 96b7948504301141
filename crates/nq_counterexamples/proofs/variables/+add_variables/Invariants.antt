-- Arguments stand before the call.
use Rattle.nq_counterexamples.proofs.variables.+add_variables.Given as goal

abbrev pub decreases-add_variables : goal.decreases-add_variables
decreases-add_variables l = l.t.0
