-- Arguments stand before the call.
use Rattle.nq_tactic.proofs.circular.+is_within.Given as goal

abbrev pub decreases-is_within : goal.decreases-is_within
decreases-is_within l = l.t.0
