use Rattle.nq_laws.proofs.Distinct.{laws_of_distinct_hold}
use Rattle.nq_laws.proofs.distinct_laws.Goals as goal

pub returns : goal.returns
returns c = laws_of_distinct_hold
