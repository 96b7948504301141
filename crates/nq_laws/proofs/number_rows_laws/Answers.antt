use Rattle.nq_laws.proofs.NumberRows.{laws_of_number_rows_hold}
use Rattle.nq_laws.proofs.number_rows_laws.Goals as goal

pub returns : goal.returns
returns c = laws_of_number_rows_hold
