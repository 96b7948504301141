use Rattle.nq_logic.proofs.Trees.{trees_agree_law as proved}
use Rattle.nq_logic.proofs.histories.trees_agree.Goals as goal

pub returns : goal.returns
returns c = proved
