use Rattle.nq_laws.proofs.Balanced.{laws_of_balanced_hold}
use Rattle.nq_laws.proofs.balanced_laws.Goals as goal

pub returns : goal.returns
returns c = laws_of_balanced_hold
