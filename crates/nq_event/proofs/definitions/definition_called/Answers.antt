use Rattle.std.proofs.Common.{sym, ap, ◌∙◌}
use Rattle.nq_logic.specs.Histories.{events_definitions}
use Rattle.nq_bank.specs.Content.{text_at}
use Rattle.nq_history.specs.Events.{all_events_at, events_at}
use Rattle.nq_history.proofs.LookupLemmas.{all_events_are}
use Rattle.nq_events.specs.Inductions.{definition_among, definition_if}
use Rattle.nq_event.proofs.definitions.definition_called.Goals as goal

pub returns-in-Some-clause-is : goal.returns-in-Some-clause-is
returns-in-Some-clause-is c =
    let bank = c.args.bank.now in
    let f = text_at bank c.in-Some.f in
    c.definition_among.ensures.is ∙
    ap (λ es. definition_among (events_definitions (all_events_at bank es)) f) c.entries.ensures ∙
    ap (λ es. definition_among (events_definitions es) f) (sym (all_events_are bank c.args.history.now c.requires.history)) ∙
    ap (definition_if (events_at bank c.args.history.now)) c.in-Some.ensures.is
