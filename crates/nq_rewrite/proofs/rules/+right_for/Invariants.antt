-- Arguments stand before the call.
use Rattle.nq_rewrite.proofs.rules.+right_for.Given as goal

abbrev pub decreases-right_for : goal.decreases-right_for
decreases-right_for l = l.u.0
