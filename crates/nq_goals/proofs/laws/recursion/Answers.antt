use Rattle.nq_goals.proofs.Causes.{recursion_is_told}
use Rattle.nq_goals.proofs.laws.recursion.Goals as goal

pub returns : goal.returns
returns c = recursion_is_told
