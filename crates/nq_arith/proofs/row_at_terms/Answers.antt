use Rattle.nq_arith.proofs.Openings.{row_law}
use Rattle.nq_arith.proofs.row_at_terms.Goals as goal

pub returns : goal.returns
returns c = row_law
