use Rattle.nq_decided.proofs.FailedTrees.{falsehoods_fail}
use Rattle.nq_decided.proofs.laws.failed_falsehoods.Goals as goal

pub returns : goal.returns
returns c = falsehoods_fail
