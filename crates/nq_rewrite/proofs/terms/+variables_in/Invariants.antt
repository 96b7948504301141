-- Arguments stand before the call.
use Rattle.nq_rewrite.proofs.terms.+variables_in.Given as goal

abbrev pub decreases-variables_in : goal.decreases-variables_in
decreases-variables_in l = l.t.0
