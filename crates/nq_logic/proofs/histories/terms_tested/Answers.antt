use Rattle.nq_logic.proofs.Tests.{terms_told_law as proved}
use Rattle.nq_logic.proofs.histories.terms_tested.Goals as goal

pub returns : goal.returns
returns c = proved
