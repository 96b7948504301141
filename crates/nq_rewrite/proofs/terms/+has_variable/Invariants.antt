-- Arguments stand before the call.
use Rattle.nq_rewrite.proofs.terms.+has_variable.Given as goal

abbrev pub decreases-has_variable : goal.decreases-has_variable
decreases-has_variable l = l.t.0
