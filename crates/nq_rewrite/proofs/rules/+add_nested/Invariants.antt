-- Arguments stand before the call.
use Rattle.nq_rewrite.proofs.rules.+add_nested.Given as goal

abbrev pub decreases-add_nested : goal.decreases-add_nested
decreases-add_nested l = l.part.0
