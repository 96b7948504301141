-- Arguments stand before the call.
use Rattle.nq_tactic.proofs.guessing.+leaves_of.Given as goal

abbrev pub decreases-leaves_of : goal.decreases-leaves_of
decreases-leaves_of l = l.t.0
