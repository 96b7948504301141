use Rattle.std.proofs.Common.{List, ap, ◌∙◌}
use Rattle.std.specs.Prelude.{Err}
use Rattle.nq_logic.specs.Histories.{Event}
use Rattle.nq_bank.specs.Content.{text_at}
use Rattle.nq_history.specs.Events.{event_at}
use Rattle.nq_history.specs.declared.history.PushFault.{PushFault}
use Rattle.nq_history.specs.declared.history.PushFault.TheVariants as fault
use Rattle.nq_log.specs.States.{Adds, start_of}
use Rattle.nq_check.proofs.ClaimLemmas.{has_place_found, has_no_place, kept_pushed, event_claimed}
use Rattle.nq_check.proofs.context.Context.add_entry.Goals as goal

pub returns-in-Ok : goal.returns-in-Ok
returns-in-Ok c =
    let bank = c.args.self.now.bank in
    let history = c.args.self.now.history in
    let name = text_at bank c.args.entry.name in
    let kept = c.requires.whole.history in
    let place = has_place_found bank history name c.in-Ok.field-0 (rw c.in-Ok.is at c.push.ensures.answer) in
    event_claimed c.args.self.now _ (event_at bank c.args.entry) name c.args.text.items
    (c.begin_block.ensures.whole (kept_pushed bank history c.push.new.self c.args.entry kept c.requires.entry place c.in-Ok.ensures.stands (rw c.in-Ok.is at (c.push.ensures.marked kept.marks c.requires.mark)) c.in-Ok.ensures.event))
    place
    (c.begin_block.ensures.state ∙ ap (λ (h : List Event). start_of h) c.in-Ok.ensures.event)
    c.requires.text

pub returns-in-Err-NameInUse : goal.returns-in-Err-NameInUse
returns-in-Err-NameInUse c =
    has_no_place c.args.self.now.bank c.args.self.now.history (text_at c.args.self.now.bank c.args.entry.name) fault.NameInUse (Adds (event_at c.args.self.now.bank c.args.entry)) (λ e. absurd cc)
    (rw (c.in-Err-NameInUse.is ∙ ap (λ (e : PushFault). Err e) c.in-Err-NameInUse.field-0-is) at c.push.ensures.answer)

pub returns-in-Err-TooManyEvents : goal.returns-in-Err-TooManyEvents
returns-in-Err-TooManyEvents c =
    has_no_place c.args.self.now.bank c.args.self.now.history (text_at c.args.self.now.bank c.args.entry.name) fault.TooManyEvents (Adds (event_at c.args.self.now.bank c.args.entry)) (λ e. absurd cc)
    (rw (c.in-Err-TooManyEvents.is ∙ ap (λ (e : PushFault). Err e) c.in-Err-TooManyEvents.field-0-is) at c.push.ensures.answer)
