use Rattle.nq_logic.proofs.Replacements.{reflexivity_law as proved}
use Rattle.nq_logic.proofs.laws.reflexivity.Goals as goal

pub returns : goal.returns
returns c = proved
