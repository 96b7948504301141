-- One step less is left.
use Rattle.nq_simplify.proofs.simplifying.+simplify_from.Given as goal

abbrev pub decreases-simplify_from : goal.decreases-simplify_from
decreases-simplify_from g l = l.rounds
