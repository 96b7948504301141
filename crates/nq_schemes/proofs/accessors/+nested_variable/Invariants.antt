-- Arguments stand before the call.
use Rattle.nq_schemes.proofs.accessors.+nested_variable.Given as goal

abbrev pub decreases-nested_variable : goal.decreases-nested_variable
decreases-nested_variable l = l.t.0
