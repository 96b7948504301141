use Rattle.nq_laws.proofs.Bounds.{laws_of_bounds_hold}
use Rattle.nq_laws.proofs.bounds_laws.Goals as goal

pub returns : goal.returns
returns c = laws_of_bounds_hold
