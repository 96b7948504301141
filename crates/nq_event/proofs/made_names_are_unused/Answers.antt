use Rattle.nq_event.proofs.MadeNameLemmas.{made_names_unused}
use Rattle.nq_event.proofs.made_names_are_unused.Goals as goal

pub returns : goal.returns
returns c = made_names_unused
