-- Arguments stand before the call.
use Rattle.nq_rewrite.proofs.terms.+variable_bits.Given as goal

abbrev pub decreases-variable_bits : goal.decreases-variable_bits
decreases-variable_bits l = l.t.0
