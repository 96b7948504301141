use Rattle.nq_laws.proofs.SplitLess.{laws_of_split_less_hold}
use Rattle.nq_laws.proofs.split_less_laws.Goals as goal

pub returns : goal.returns
returns c = laws_of_split_less_hold
