use Rattle.nq_logic.proofs.Clauses.{excluded_middle_law as proved}
use Rattle.nq_logic.proofs.laws.excluded_middle.Goals as goal

pub returns : goal.returns
returns c = proved
