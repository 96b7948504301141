use Rattle.nq_logic.proofs.Clauses.{instance_law as proved}
use Rattle.nq_logic.proofs.laws.instance.Goals as goal

pub returns : goal.returns
returns c = proved
