use Rattle.nq_value.proofs.TableLemmas.{rows_named}
use Rattle.nq_value.proofs.lookup.row_of.Goals as goal

pub row_among-requires-clause-rows : goal.row_among-requires-clause-rows
row_among-requires-clause-rows c = rows_named c.rows.result c.rows.ensures.rows
