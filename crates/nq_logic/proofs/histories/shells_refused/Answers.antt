use Rattle.nq_logic.proofs.ShellTests.{shells_refused_law as proved}
use Rattle.nq_logic.proofs.histories.shells_refused.Goals as goal

pub returns : goal.returns
returns c = proved
