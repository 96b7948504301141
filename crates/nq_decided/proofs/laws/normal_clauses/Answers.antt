use Rattle.nq_decided.proofs.NormalClauses.{clauses_are_normal}
use Rattle.nq_decided.proofs.laws.normal_clauses.Goals as goal

pub returns : goal.returns
returns c = clauses_are_normal
