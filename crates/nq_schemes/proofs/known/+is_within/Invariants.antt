-- Arguments stand before the call.
use Rattle.nq_schemes.proofs.known.+is_within.Given as goal

abbrev pub decreases-is_within : goal.decreases-is_within
decreases-is_within l = l.whole.0
