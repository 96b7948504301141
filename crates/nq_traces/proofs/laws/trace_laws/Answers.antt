use Rattle.nq_traces.proofs.TraceLemmas.{trace_laws_hold}
use Rattle.nq_traces.proofs.laws.trace_laws.Goals as goal

pub returns : goal.returns
returns c = trace_laws_hold
