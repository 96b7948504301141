use Rattle.nq_logic.proofs.Calls.{calls_differ_law as proved}
use Rattle.nq_logic.proofs.histories.calls_differ.Goals as goal

pub returns : goal.returns
returns c = proved
