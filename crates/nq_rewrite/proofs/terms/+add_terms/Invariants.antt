-- Arguments stand before the call.
use Rattle.nq_rewrite.proofs.terms.+add_terms.Given as goal

abbrev pub decreases-add_terms : goal.decreases-add_terms
decreases-add_terms l = l.t.0
