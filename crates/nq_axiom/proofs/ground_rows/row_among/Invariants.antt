-- No row so far is of the name and number.
use Rattle.std.proofs.Common.{◌≡◌, drop}
use Rattle.nq_bank.specs.Content.{text_at}
use Rattle.nq_proof.specs.Rows.{row_found}
use Rattle.nq_axiom.specs.Table.{rows_of}
use Rattle.nq_axiom.proofs.ground_rows.row_among.Given as goal

abbrev pub invariant-loop-r : goal.invariant-loop-r
invariant-loop-r l = row_found (text_at l.bank l.name) l.row (rows_of l.rows) ≡ row_found (text_at l.bank l.name) l.row (rows_of (drop l.r-index l.rows))
