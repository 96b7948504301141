use Rattle.nq_laws.proofs.Descents.{laws_of_descents_hold}
use Rattle.nq_laws.proofs.descents_laws.Goals as goal

pub returns : goal.returns
returns c = laws_of_descents_hold
