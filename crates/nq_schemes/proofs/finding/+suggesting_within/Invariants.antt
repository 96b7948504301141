-- Arguments stand before the call.
use Rattle.nq_schemes.proofs.finding.+suggesting_within.Given as goal

abbrev pub decreases-suggesting_within : goal.decreases-suggesting_within
decreases-suggesting_within l = l.t.0
