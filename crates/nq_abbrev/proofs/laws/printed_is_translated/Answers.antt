use Rattle.nq_abbrev.proofs.PrintedLemmas.{printed_is_translated as proved}
use Rattle.nq_abbrev.proofs.laws.printed_is_translated.Goals as goal

pub returns : goal.returns
returns c = proved
