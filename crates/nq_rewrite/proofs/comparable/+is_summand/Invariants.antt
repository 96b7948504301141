-- Arguments stand before the call.
use Rattle.nq_rewrite.proofs.comparable.+is_summand.Given as goal

abbrev pub decreases-is_summand : goal.decreases-is_summand
decreases-is_summand l = l.t.0
