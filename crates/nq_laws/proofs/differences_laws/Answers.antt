use Rattle.nq_laws.proofs.Differences.{laws_of_differences_hold}
use Rattle.nq_laws.proofs.differences_laws.Goals as goal

pub returns : goal.returns
returns c = laws_of_differences_hold
