-- Arguments stand before the call.
use Rattle.nq_rewrite.proofs.telling.+leaves_tell.Given as goal

abbrev pub decreases-leaves_tell : goal.decreases-leaves_tell
decreases-leaves_tell l = l.t.0
