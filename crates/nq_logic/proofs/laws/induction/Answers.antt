use Rattle.nq_logic.proofs.Inductions.{induction_law as proved}
use Rattle.nq_logic.proofs.laws.induction.Goals as goal

pub returns : goal.returns
returns c = proved
