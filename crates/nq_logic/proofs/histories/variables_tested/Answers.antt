use Rattle.nq_logic.proofs.Tests.{variables_told_law as proved}
use Rattle.nq_logic.proofs.histories.variables_tested.Goals as goal

pub returns : goal.returns
returns c = proved
