use Rattle.nq_logic.proofs.Replacements.{replacement_law as proved}
use Rattle.nq_logic.proofs.laws.replacement.Goals as goal

pub returns : goal.returns
returns c = proved
