-- Arguments stand before the call.
use Rattle.nq_rewrite.proofs.terms.+by_order.Given as goal

abbrev pub decreases-by_order : goal.decreases-by_order
decreases-by_order l = l.t.0
