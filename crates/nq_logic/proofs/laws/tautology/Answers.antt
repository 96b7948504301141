use Rattle.nq_logic.proofs.Tautologies.{tautology_law as proved}
use Rattle.nq_logic.proofs.laws.tautology.Goals as goal

pub returns : goal.returns
returns c = proved
