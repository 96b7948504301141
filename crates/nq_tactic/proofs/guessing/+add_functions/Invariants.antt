-- Arguments stand before the call.
use Rattle.nq_tactic.proofs.guessing.+add_functions.Given as goal

abbrev pub decreases-add_functions : goal.decreases-add_functions
decreases-add_functions l = l.t.0
