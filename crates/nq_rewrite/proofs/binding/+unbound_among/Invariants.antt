-- Parts stand before the whole.
use Rattle.nq_rewrite.proofs.binding.+unbound_among.Given as goal

abbrev pub decreases-unbound_among : goal.decreases-unbound_among
decreases-unbound_among l = l.hypotheses.0
