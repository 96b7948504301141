use Rattle.nq_eliminate.proofs.LawLemmas.{none_is_none}
use Rattle.nq_eliminate.proofs.laws.none_is_none.Goals as goal

pub returns : goal.returns
returns c = none_is_none
