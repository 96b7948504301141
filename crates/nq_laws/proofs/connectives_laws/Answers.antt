use Rattle.nq_laws.proofs.Connectives.{laws_of_connectives_hold}
use Rattle.nq_laws.proofs.connectives_laws.Goals as goal

pub returns : goal.returns
returns c = laws_of_connectives_hold
