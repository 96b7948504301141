use Rattle.nq_abbrev.proofs.ReservedLemmas.{names_are_calls as proved}
use Rattle.nq_abbrev.proofs.laws.names_are_calls.Goals as goal

pub returns : goal.returns
returns c = proved
