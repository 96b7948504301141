use Rattle.nq_language.proofs.PrintedSymbols.{ground_is_usable as proved}
use Rattle.nq_language.proofs.ground_is_usable.Goals as goal

pub returns : goal.returns
returns c = proved
