use Rattle.nq_laws.proofs.Ordinals.{laws_of_ordinals_hold}
use Rattle.nq_laws.proofs.ordinals_laws.Goals as goal

pub returns : goal.returns
returns c = laws_of_ordinals_hold
