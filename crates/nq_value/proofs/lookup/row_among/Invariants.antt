-- No row so far has the name.
use Rattle.std.proofs.Common.{◌≡◌, drop}
use Rattle.nq_logic.specs.Names.{has_name}
use Rattle.nq_bank.specs.Content.{text_at}
use Rattle.nq_value.specs.Rows.{names_of}
use Rattle.nq_value.proofs.lookup.row_among.Given as goal

abbrev pub invariant-loop-known : goal.invariant-loop-known
invariant-loop-known l = has_name (text_at l.bank l.f) (names_of l.rows) ≡ has_name (text_at l.bank l.f) (names_of (drop l.known-index l.rows))
