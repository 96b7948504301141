use Rattle.std.proofs.Common.{sym, ap, ◌∙◌, subst}
use Rattle.nq_steps.proofs.StackLemmas.{on_ok}
use Rattle.nq_history.specs.Events.{events_at, HistoryStands}
use Rattle.nq_history.specs.Marking.{AreMarked}
use Rattle.nq_history.proofs.MarkingLemmas.{marked_push}
use Rattle.nq_history.proofs.LookupLemmas.{push_stands, push_event}
use Rattle.nq_history.proofs.history.History.push.Goals as goal

pub returns-clause-stands : goal.returns-clause-stands
returns-clause-stands c =
    let bank = c.args.bank.now in
    on_ok c.add.result (λ e. subst (HistoryStands bank) (sym e) (push_stands bank c.args.self.now c.args.entry c.requires.history c.requires.entry)) c.add.ensures.ok

pub returns-clause-event : goal.returns-clause-event
returns-clause-event c =
    let bank = c.args.bank.now in
    on_ok c.add.result (λ e. ap (events_at bank) e ∙ push_event bank c.args.self.now c.args.entry c.requires.history c.requires.entry) c.add.ensures.ok

pub returns-clause-marked : goal.returns-clause-marked
returns-clause-marked c =
    λ marked new.
    let bank = c.args.bank.now in
    on_ok c.add.result (λ e. subst (AreMarked bank) (sym e) (marked_push bank c.args.self.now c.args.entry marked new)) c.add.ensures.ok
