-- The functions that are left decide.
use Rattle.std.proofs.Common.{◌≡◌, drop}
use Rattle.nq_proof.specs.Logs.{has_symbol}
use Rattle.nq_bank.specs.Content.{text_at}
use Rattle.nq_check.specs.Functions.{symbols_in}
use Rattle.nq_check.proofs.arities.is_one_of.Given as goal

abbrev pub invariant-loop-known : goal.invariant-loop-known
invariant-loop-known l = has_symbol (text_at l.bank l.f) l.count (symbols_in l.functions) ≡ has_symbol (text_at l.bank l.f) l.count (symbols_in (drop l.known-index l.functions))
