use Rattle.nq_laws.proofs.Times.{laws_of_times_hold}
use Rattle.nq_laws.proofs.times_laws.Goals as goal

pub returns : goal.returns
returns c = laws_of_times_hold
