use Rattle.nq_laws.proofs.PairRows.{laws_of_pair_rows_hold}
use Rattle.nq_laws.proofs.pair_rows_laws.Goals as goal

pub returns : goal.returns
returns c = laws_of_pair_rows_hold
