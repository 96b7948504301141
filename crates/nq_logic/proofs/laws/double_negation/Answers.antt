use Rattle.nq_logic.proofs.Branches.{double_negation_law as proved}
use Rattle.nq_logic.proofs.laws.double_negation.Goals as goal

pub returns : goal.returns
returns c = proved
