-- Arguments stand before the call.
use Rattle.nq_schemes.proofs.suggestion.+add_suggestions.Given as goal

abbrev pub decreases-add_suggestions : goal.decreases-add_suggestions
decreases-add_suggestions l = l.t.0
