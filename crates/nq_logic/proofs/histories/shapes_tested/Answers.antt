use Rattle.nq_logic.proofs.ShapeTests.{shapes_told_law as proved}
use Rattle.nq_logic.proofs.histories.shapes_tested.Goals as goal

pub returns : goal.returns
returns c = proved
