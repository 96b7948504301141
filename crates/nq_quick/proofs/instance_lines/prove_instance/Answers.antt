use Rattle.std.proofs.Common.{◌∙◌, ap}
use Rattle.nq_clause.specs.Binding.{bindings_at}
use Rattle.nq_history.specs.Events.{events_at}
use Rattle.nq_kernel.specs.declared.work.Work.{Work}
use Rattle.nq_kernel.proofs.ReadyLemmas.{ready_spelled}
use Rattle.nq_steps.proofs.NameLemmas.{no_names}
use Rattle.nq_quick.specs.Lines.{GrowsUncounted}
use Rattle.nq_quick.proofs.LineLemmas.{grown_trans}
use Rattle.nq_quick.proofs.GrownLemmas.{bank_uncounted}
use Rattle.nq_quick.proofs.EventLemmas.{can_start, can_grown, event_grown}
use Rattle.nq_quick.proofs.instance_lines.prove_instance.Goals as goal

pub returns-in_err-pairs-clause-grows : goal.returns-in_err-pairs-clause-grows
returns-in_err-pairs-clause-grows c = bank_uncounted c.args.history.now c.args.work.now c.pairs_of.new.bank c.requires.stands c.pairs_of.ensures.grows (no_names c.args.work.now.bank c.pairs_of.new.bank c.pairs_of.ensures.names)

pub add_event-requires-clause-stands : goal.add_event-requires-clause-stands
add_event-requires-clause-stands c = (bank_uncounted c.args.history.now c.args.work.now c.pairs_of.new.bank c.requires.stands c.pairs_of.ensures.grows (no_names c.args.work.now.bank c.pairs_of.new.bank c.pairs_of.ensures.names)).grows.stands

pub add_event-requires-clause-event : goal.add_event-requires-clause-event
add_event-requires-clause-event c = event_grown c.args.work.now.bank c.pairs_of.new.bank c.args.history.now c.args.found.now.name c.args.found.now.term c.pairs_of.ensures.grows c.requires.stands.history c.requires.found.event

pub returns-in_err-line-clause-grows : goal.returns-in_err-line-clause-grows
returns-in_err-line-clause-grows c =
    let mid : Work = record c.args.work.now { bank = c.pairs_of.new.bank } in
    grown_trans c.args.history.now c.args.work.now mid c.add_event.new.work (bank_uncounted c.args.history.now c.args.work.now c.pairs_of.new.bank c.requires.stands c.pairs_of.ensures.grows (no_names c.args.work.now.bank c.pairs_of.new.bank c.pairs_of.ensures.names)) c.add_event.ensures.grows

pub add_event_instance-requires-clause-instance : goal.add_event_instance-requires-clause-instance
add_event_instance-requires-clause-instance c =
    let first : GrowsUncounted c.args.history.now c.args.work.now (record c.args.work.now { bank = c.pairs_of.new.bank }) = bank_uncounted c.args.history.now c.args.work.now c.pairs_of.new.bank c.requires.stands c.pairs_of.ensures.grows (no_names c.args.work.now.bank c.pairs_of.new.bank c.pairs_of.ensures.names) in
    can_grown c.pairs_of.new.bank c.add_event.new.work.bank c.args.history.now c.args.found.now.term c.args.goal c.in_ok-pairs.pairs.items c.add_event.ensures.grows.grows.bank first.grows.stands.history
    (can_start c.args.work.now.bank c.pairs_of.new.bank c.args.history.now c.args.goal c.args.found.now c.in_ok-pairs.pairs.items c.pairs_of.ensures.grows c.requires.stands.history c.requires.goal c.requires.over (ready_spelled (events_at c.args.work.now.bank c.args.history.now) c.requires.ready) c.requires.found (c.in_ok-pairs.ensures.pairs ∙ ap (bindings_at c.args.work.now.bank) c.as_slice.ensures.value) c.in_ok-pairs.ensures.stand)

pub returns-clause-grows : goal.returns-clause-grows
returns-clause-grows c =
    let mid : Work = record c.args.work.now { bank = c.pairs_of.new.bank } in
    grown_trans c.args.history.now c.args.work.now mid c.add_event_instance.new.work
    (bank_uncounted c.args.history.now c.args.work.now c.pairs_of.new.bank c.requires.stands c.pairs_of.ensures.grows (no_names c.args.work.now.bank c.pairs_of.new.bank c.pairs_of.ensures.names))
    (grown_trans c.args.history.now mid c.add_event.new.work c.add_event_instance.new.work c.add_event.ensures.grows c.add_event_instance.ensures.grows)
