-- The argument stands before the call.
use Rattle.nq_decrease.proofs.own_nests.+own_descend.Given as goal

abbrev pub decreases-own_descend : goal.decreases-own_descend
decreases-own_descend l = l.t.0
