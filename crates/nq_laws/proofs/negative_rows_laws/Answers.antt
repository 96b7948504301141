use Rattle.nq_laws.proofs.NegativeRows.{laws_of_negative_rows_hold}
use Rattle.nq_laws.proofs.negative_rows_laws.Goals as goal

pub returns : goal.returns
returns c = laws_of_negative_rows_hold
