-- The parts that are left decide.
use Rattle.std.proofs.Common.{◌≡◌, drop}
use Rattle.nq_logic.specs.Histories.{accessor_symbols}
use Rattle.nq_proof.specs.Logs.{has_symbol}
use Rattle.nq_bank.specs.Content.{text_at}
use Rattle.nq_bank.specs.Shells.{parts_at}
use Rattle.nq_check.proofs.arities.is_accessor.Given as goal

abbrev pub invariant-loop-part : goal.invariant-loop-part
invariant-loop-part l = has_symbol (text_at l.bank l.f) l.count (accessor_symbols (parts_at l.bank l.parts)) ≡ has_symbol (text_at l.bank l.f) l.count (accessor_symbols (parts_at l.bank (drop l.part-index l.parts)))
