-- The arguments of a call stand before it.
use Rattle.nq_cases.proofs.choosing.+choice_in.Given as goal

abbrev pub decreases-choice_in : goal.decreases-choice_in
decreases-choice_in l = l.t.0
