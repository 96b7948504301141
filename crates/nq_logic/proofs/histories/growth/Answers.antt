use Rattle.nq_logic.proofs.Additions.{growth_law as proved}
use Rattle.nq_logic.proofs.histories.growth.Goals as goal

pub returns : goal.returns
returns c = proved
