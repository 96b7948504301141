use Rattle.nq_laws.proofs.Parts.{laws_of_parts_hold}
use Rattle.nq_laws.proofs.parts_laws.Goals as goal

pub returns : goal.returns
returns c = laws_of_parts_hold
