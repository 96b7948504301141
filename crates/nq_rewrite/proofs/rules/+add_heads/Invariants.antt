-- Arguments stand before the call.
use Rattle.nq_rewrite.proofs.rules.+add_heads.Given as goal

abbrev pub decreases-add_heads : goal.decreases-add_heads
decreases-add_heads l = l.part.0
