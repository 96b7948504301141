use Rattle.nq_laws.proofs.Implications.{laws_of_implications_hold}
use Rattle.nq_laws.proofs.implications_laws.Goals as goal

pub returns : goal.returns
returns c = laws_of_implications_hold
