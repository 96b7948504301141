use Rattle.std.proofs.Common.{◌≡◌, sym, ap, ◌∙◌}
use Rattle.std.specs.Prelude.{Option}
use Rattle.std.specs.Option.{option_map}
use Rattle.std.proofs.lemmas.Result.{IfOk-weaker}
use Rattle.nq_logic.specs.Terms.{Name}
use Rattle.nq_logic.specs.Names.{looked_up}
use Rattle.nq_bank.specs.Content.{text_at}
use Rattle.nq_history.specs.Events.{event_at}
use Rattle.nq_comment.specs.ReportViews.{answer_of}
use Rattle.nq_comment.specs.declared.answer.FormAnswer.{FormAnswer}
use Rattle.nq_events.specs.Refusals.{NameInUse, NoSuchEvent}
use Rattle.nq_events.specs.OwnRefusals.{room_refusal}
use Rattle.nq_answers.specs.Steps.{refusal_answer, refused}
use Rattle.nq_run.specs.HistoryView.{history_of}
use Rattle.nq_run.proofs.NameLemmas.{copied_some, toggle_room, toggle_unknown, toggle_used}
use Rattle.nq_run.proofs.session.Session.toggle_answer.Goals as goal

pub returns-then-in_use : goal.returns-then-in_use
returns-then-in_use c =
    λ disabled.
    let session = c.args.self.now in
    toggle_used (history_of session) (text_at session.bank c.args.name) (text_at session.bank c.args.old) disabled (answer_of c.in_ok-name_in_use.field-0)
    (sym c.if-in_use.true ∙ c.in_use.ensures) (c.in_ok-name_in_use.ensures ∙ ap (λ (n : Name). refusal_answer (NameInUse n)) c.text.ensures.value)

pub returns-then-is_none : goal.returns-then-is_none
returns-then-is_none c =
    λ disabled.
    let session = c.args.self.now in
    let h = history_of session in
    let old = text_at session.bank c.args.old in
    let found = copied_some (event_at session.bank) c.lookup.result (looked_up old h) (c.lookup.ensures.event session.bank c.is_sound.ensures c.requires.stands.history c.requires.old) in
    toggle_unknown h (text_at session.bank c.args.name) old disabled (answer_of c.in_ok-no_such_event.field-0) (sym c.if-in_use.false ∙ c.in_use.ensures) (sym c.if-is_none.ensures ∙ found)
    (c.in_ok-no_such_event.ensures ∙ ap (λ (n : Name). refusal_answer (NoSuchEvent n)) c.text-then-is_none.ensures.value)

pub returns : goal.returns
returns c =
    λ disabled.
    let session = c.args.self.now in
    let h = history_of session in
    let old = text_at session.bank c.args.old in
    let found = copied_some (event_at session.bank) c.lookup.result (looked_up old h) (c.lookup.ensures.event session.bank c.is_sound.ensures c.requires.stands.history c.requires.old) in
    IfOk-weaker c.room_answer.result (λ (answer : Option FormAnswer). option_map answer_of answer ≡ refused (room_refusal h)) _
    (λ answer is. is ∙ toggle_room h (text_at session.bank c.args.name) old disabled (sym c.if-in_use.false ∙ c.in_use.ensures) (sym c.if-is_none.ensures ∙ found)) c.room_answer.ensures
