-- Arguments stand before the call.
use Rattle.nq_schemes.proofs.terms.+mentions.Given as goal

abbrev pub decreases-mentions : goal.decreases-mentions
decreases-mentions l = l.t.0
