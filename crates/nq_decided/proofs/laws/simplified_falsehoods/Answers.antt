use Rattle.nq_decided.proofs.FalseClauses.{falsehoods_simplify}
use Rattle.nq_decided.proofs.laws.simplified_falsehoods.Goals as goal

pub returns : goal.returns
returns c = falsehoods_simplify
