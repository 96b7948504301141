use Rattle.nq_laws.proofs.Zero.{laws_of_zero_hold}
use Rattle.nq_laws.proofs.zero_laws.Goals as goal

pub returns : goal.returns
returns c = laws_of_zero_hold
