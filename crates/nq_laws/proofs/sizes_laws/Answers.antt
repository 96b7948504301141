use Rattle.nq_laws.proofs.Sizes.{laws_of_sizes_hold}
use Rattle.nq_laws.proofs.sizes_laws.Goals as goal

pub returns : goal.returns
returns c = laws_of_sizes_hold
