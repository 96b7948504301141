-- No entry so far is a definition of the name.
use Rattle.std.proofs.Common.{◌≡◌, drop}
use Rattle.nq_bank.specs.Content.{text_at}
use Rattle.nq_logic.specs.Histories.{events_definitions}
use Rattle.nq_proof.specs.Rows.{definition_found}
use Rattle.nq_history.specs.Events.{all_events_at}
use Rattle.nq_kernel.proofs.definitions.definition_among.Given as goal

abbrev pub invariant-loop-e : goal.invariant-loop-e
invariant-loop-e l = definition_found (text_at l.bank l.name) (events_definitions (all_events_at l.bank l.entries)) ≡ definition_found (text_at l.bank l.name) (events_definitions (all_events_at l.bank (drop l.e-index l.entries)))
