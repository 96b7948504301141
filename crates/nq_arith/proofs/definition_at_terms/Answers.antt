use Rattle.nq_arith.proofs.Openings.{definition_law}
use Rattle.nq_arith.proofs.definition_at_terms.Goals as goal

pub returns : goal.returns
returns c = definition_law
