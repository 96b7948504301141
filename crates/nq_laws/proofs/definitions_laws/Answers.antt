use Rattle.nq_laws.proofs.Definitions.{laws_of_definitions_hold}
use Rattle.nq_laws.proofs.definitions_laws.Goals as goal

pub returns : goal.returns
returns c = laws_of_definitions_hold
