use Rattle.nq_laws.proofs.Quotients.{laws_of_quotients_hold}
use Rattle.nq_laws.proofs.quotients_laws.Goals as goal

pub returns : goal.returns
returns c = laws_of_quotients_hold
