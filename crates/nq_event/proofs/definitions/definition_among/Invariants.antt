use Rattle.std.proofs.Common.{◌≡◌, drop}
use Rattle.nq_logic.specs.Histories.{events_definitions}
use Rattle.nq_bank.specs.Content.{text_at}
use Rattle.nq_history.specs.Events.{all_events_at}
use Rattle.nq_events.specs.Inductions.{definition_among}
use Rattle.nq_event.proofs.definitions.definition_among.Given as goal

abbrev pub invariant-loop-entry : goal.invariant-loop-entry
invariant-loop-entry l = definition_among (events_definitions (all_events_at l.bank l.entries)) (text_at l.bank l.name) ≡ definition_among (events_definitions (all_events_at l.bank (drop l.entry-index l.entries))) (text_at l.bank l.name)
