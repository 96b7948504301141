-- The events that are left decide.
use Rattle.std.proofs.Common.{◌≡◌, drop}
use Rattle.nq_logic.specs.Histories.{events_symbols}
use Rattle.nq_proof.specs.Logs.{has_symbol}
use Rattle.nq_bank.specs.Content.{text_at}
use Rattle.nq_history.specs.Events.{all_events_at}
use Rattle.nq_check.proofs.arities.is_among.Given as goal

abbrev pub invariant-loop-e : goal.invariant-loop-e
invariant-loop-e l = has_symbol (text_at l.bank l.f) l.count (events_symbols (all_events_at l.bank l.entries)) ≡ has_symbol (text_at l.bank l.f) l.count (events_symbols (all_events_at l.bank (drop l.e-index l.entries)))
