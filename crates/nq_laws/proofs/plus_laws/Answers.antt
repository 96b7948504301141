use Rattle.nq_laws.proofs.Plus.{laws_of_plus_hold}
use Rattle.nq_laws.proofs.plus_laws.Goals as goal

pub returns : goal.returns
returns c = laws_of_plus_hold
