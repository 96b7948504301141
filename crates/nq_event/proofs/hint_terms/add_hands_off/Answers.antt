use Rattle.std.proofs.Common.{◌++◌, ap, ◌∙◌}
use Rattle.nq_history.specs.Events.{events_at}
use Rattle.nq_history.proofs.HistoryLemmas.{events_at-grown, history_grown}
use Rattle.nq_events.specs.HintRefusals.{is_function}
use Rattle.std.specs.List.{list_all}
use Rattle.nq_event.specs.Shapes.{names_at}
use Rattle.nq_event.proofs.HintSumLemmas.{left_alone_added}
use Rattle.nq_event.proofs.hint_terms.add_hands_off.Goals as goal

pub returns-clause-added : goal.returns-clause-added
returns-clause-added c =
    let old = c.args.bank.now in
    let new = c.names_of.new.bank in
    let hints = c.args.hints.now in
    let texts = names_at c.args.forms.now in
    left_alone_added (events_at old c.args.history.now) old new c.names_of.ensures.grows hints c.requires.hints c.extend_from_slice.new.self c.in_ok-names.names.items texts c.are_functions.result
    (c.in_ok-extend_from_slice.ensures.items ∙ ap (λ xs. hints.hands_off.items ++ xs) c.as_slice.ensures.value) c.in_ok-names.ensures.names
    (c.are_functions.ensures ∙ ap (λ h. list_all (is_function h) texts) (events_at-grown old new c.names_of.ensures.grows c.args.history.now c.requires.history.entries))

pub are_functions-requires : goal.are_functions-requires
are_functions-requires c = history_grown c.args.bank.now c.names_of.new.bank c.names_of.ensures.grows c.args.history.now c.requires.history
