use Rattle.nq_calls.proofs.ApartLemmas.{apart_if_unused}
use Rattle.nq_calls.proofs.laws.apart_if_unused.Goals as goal

pub returns : goal.returns
returns c = apart_if_unused
