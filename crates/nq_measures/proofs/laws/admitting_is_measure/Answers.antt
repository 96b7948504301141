use Rattle.nq_measures.proofs.MeasuredLemmas.{admitting_measure}
use Rattle.nq_measures.proofs.laws.admitting_is_measure.Goals as goal

pub returns : goal.returns
returns c = admitting_measure
