-- The argument stands before the call.
use Rattle.nq_decrease.proofs.descents.+descend.Given as goal

abbrev pub decreases-descend : goal.decreases-descend
decreases-descend l = l.t.0
