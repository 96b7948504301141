use Rattle.std.proofs.Common.{ap, ◌∙◌}
use Rattle.std.specs.List.{list_all}
use Rattle.nq_history.specs.Events.{events_at}
use Rattle.nq_history.proofs.HistoryLemmas.{events_at-grown, history_grown}
use Rattle.nq_events.specs.HintRefusals.{is_usable}
use Rattle.nq_event.specs.Hints.{instances_at}
use Rattle.nq_event.proofs.HintSumLemmas.{used_added}
use Rattle.nq_event.proofs.hint_terms.add_used.Goals as goal

pub returns-clause-added : goal.returns-clause-added
returns-clause-added c =
    let old = c.args.bank.now in
    let new = c.instances_in.new.bank in
    let hints = c.args.hints.now in
    let written = instances_at c.args.forms.now in
    let read = c.in_ok-instances.ensures.read in
    used_added (events_at old c.args.history.now) old new c.instances_in.ensures.grows hints c.requires.hints c.append.new.self c.in_ok-instances.instances.items written c.are_usable.result
    c.in_ok-append.ensures.items read.stands read.unrefused read.is
    (c.are_usable.ensures ∙ ap (λ h. list_all (is_usable h) written) (events_at-grown old new c.instances_in.ensures.grows c.args.history.now c.requires.history.entries))

pub are_usable-requires : goal.are_usable-requires
are_usable-requires c = history_grown c.args.bank.now c.instances_in.new.bank c.instances_in.ensures.grows c.args.history.now c.requires.history
