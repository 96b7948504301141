use Rattle.nq_tracer.proofs.TraceLemmas.{trace_of_move}
use Rattle.nq_tracer.proofs.laws.one_move.Goals as goal

pub returns : goal.returns
returns c = trace_of_move
