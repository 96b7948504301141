use Rattle.nq_language.proofs.DepthLemmas.{parts_are_shallower as proved}
use Rattle.nq_language.proofs.parts_are_shallower.Goals as goal

pub returns : goal.returns
returns c = proved
