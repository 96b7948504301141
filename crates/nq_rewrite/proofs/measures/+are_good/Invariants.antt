-- Arguments stand before the call.
use Rattle.nq_rewrite.proofs.measures.+are_good.Given as goal

abbrev pub decreases-are_good : goal.decreases-are_good
decreases-are_good l = l.t.0
