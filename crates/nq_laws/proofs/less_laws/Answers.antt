use Rattle.nq_laws.proofs.Less.{laws_of_less_hold}
use Rattle.nq_laws.proofs.less_laws.Goals as goal

pub returns : goal.returns
returns c = laws_of_less_hold
