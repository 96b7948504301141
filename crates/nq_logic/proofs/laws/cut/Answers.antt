use Rattle.nq_logic.proofs.Clauses.{cut_law as proved}
use Rattle.nq_logic.proofs.laws.cut.Goals as goal

pub returns : goal.returns
returns c = proved
