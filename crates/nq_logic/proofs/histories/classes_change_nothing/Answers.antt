use Rattle.nq_logic.proofs.Classes.{classes_change_nothing_law as proved}
use Rattle.nq_logic.proofs.histories.classes_change_nothing.Goals as goal

pub returns : goal.returns
returns c = proved
