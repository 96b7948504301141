use Rattle.nq_laws.proofs.LessChains.{laws_of_less_chains_hold}
use Rattle.nq_laws.proofs.less_chains_laws.Goals as goal

pub returns : goal.returns
returns c = laws_of_less_chains_hold
