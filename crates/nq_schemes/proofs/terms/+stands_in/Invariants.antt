-- Arguments stand before the call.
use Rattle.nq_schemes.proofs.terms.+stands_in.Given as goal

abbrev pub decreases-stands_in : goal.decreases-stands_in
decreases-stands_in l = l.t.0
