-- Arguments stand before the call.
use Rattle.nq_tactic.proofs.truths.+add_leaves.Given as goal

abbrev pub decreases-add_leaves : goal.decreases-add_leaves
decreases-add_leaves l = l.t.0
