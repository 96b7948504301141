use Rattle.nq_types.proofs.ValueLemmas.{value_kinded}
use Rattle.nq_types.proofs.kinds.values_have_kinds.Goals as goal

pub returns : goal.returns
returns c = value_kinded
