-- Arguments stand before the call.
use Rattle.nq_tactic.proofs.truths.+add_asked.Given as goal

abbrev pub decreases-add_asked : goal.decreases-add_asked
decreases-add_asked l = l.t.0
