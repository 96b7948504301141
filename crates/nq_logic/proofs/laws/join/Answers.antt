use Rattle.nq_logic.proofs.Branches.{join_law as proved}
use Rattle.nq_logic.proofs.laws.join.Goals as goal

pub returns : goal.returns
returns c = proved
