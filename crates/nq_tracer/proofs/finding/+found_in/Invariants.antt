-- The arguments of a call stand before it in the bank.
use Rattle.nq_tracer.proofs.finding.+found_in.Given as goal

abbrev pub decreases-found_in : goal.decreases-found_in
decreases-found_in l = l.t.0
