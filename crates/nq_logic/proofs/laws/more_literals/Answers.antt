use Rattle.nq_logic.proofs.Clauses.{more_literals as proved}
use Rattle.nq_logic.proofs.laws.more_literals.Goals as goal

pub returns : goal.returns
returns c = proved
