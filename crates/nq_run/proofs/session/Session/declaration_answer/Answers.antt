use Rattle.std.proofs.Common.{◌≡◌, sym, ap, ◌∙◌}
use Rattle.std.specs.Prelude.{Option}
use Rattle.std.specs.Option.{option_map}
use Rattle.std.proofs.lemmas.Result.{IfOk-weaker}
use Rattle.nq_logic.specs.Terms.{Name}
use Rattle.nq_bank.specs.Content.{text_at}
use Rattle.nq_bank.specs.Shells.{texts_at}
use Rattle.nq_comment.specs.ReportViews.{answer_of}
use Rattle.nq_comment.specs.declared.answer.FormAnswer.{FormAnswer}
use Rattle.nq_events.specs.Refusals.{FormalIsConstant, NameInUse, RepeatedFormal}
use Rattle.nq_events.specs.OwnRefusals.{room_refusal}
use Rattle.nq_answers.specs.Steps.{refusal_answer, refused}
use Rattle.nq_run.specs.HistoryView.{history_of}
use Rattle.nq_run.proofs.NameLemmas.{dcl_constant, dcl_repeated, dcl_room, dcl_used}
use Rattle.nq_run.proofs.session.Session.declaration_answer.Goals as goal

pub returns-then-in_use : goal.returns-then-in_use
returns-then-in_use c =
    let session = c.args.self.now in
    dcl_used (history_of session) (text_at session.bank c.args.name) (texts_at session.bank c.args.formals.now) (answer_of c.in_ok-name_in_use.field-0)
    (sym c.if-in_use.true ∙ c.in_use.ensures) (c.in_ok-name_in_use.ensures ∙ ap (λ (n : Name). refusal_answer (NameInUse n)) c.text.ensures.value)

pub returns-in-Some : goal.returns-in-Some
returns-in-Some c =
    let session = c.args.self.now in
    dcl_constant (history_of session) (text_at session.bank c.args.name) (texts_at session.bank c.args.formals.now) (answer_of c.in_ok-formal_is_constant.field-0)
    (text_at session.bank c.in-Some.formal) (sym c.if-in_use.false ∙ c.in_use.ensures) (sym (ap (option_map (text_at session.bank)) c.in-Some.is) ∙ c.first_constant.ensures.is)
    (c.in_ok-formal_is_constant.ensures ∙ ap (λ (n : Name). refusal_answer (FormalIsConstant n)) c.text-in-Some.ensures.value)

pub returns-in-Some-2 : goal.returns-in-Some-2
returns-in-Some-2 c =
    let session = c.args.self.now in
    dcl_repeated (history_of session) (text_at session.bank c.args.name) (texts_at session.bank c.args.formals.now) (answer_of c.in_ok-repeated_formal.field-0)
    (text_at session.bank c.in-Some-2.formal) (sym c.if-in_use.false ∙ c.in_use.ensures) (sym (ap (option_map (text_at session.bank)) c.in_default.is) ∙ c.first_constant.ensures.is)
    (sym (ap (option_map (text_at session.bank)) c.in-Some-2.is) ∙ c.in_ok-formal.ensures.is)
    (c.in_ok-repeated_formal.ensures ∙ ap (λ (n : Name). refusal_answer (RepeatedFormal n)) c.text-in-Some-2.ensures.value)

pub returns : goal.returns
returns c =
    let session = c.args.self.now in
    let h = history_of session in
    IfOk-weaker c.room_answer.result (λ (answer : Option FormAnswer). option_map answer_of answer ≡ refused (room_refusal h)) _
    (λ answer is. is
    ∙ dcl_room h (text_at session.bank c.args.name) (texts_at session.bank c.args.formals.now) (sym c.if-in_use.false ∙ c.in_use.ensures)
    (sym (ap (option_map (text_at session.bank)) c.in_default.is) ∙ c.first_constant.ensures.is) (sym (ap (option_map (text_at session.bank)) c.in_default-2.is) ∙ c.in_ok-formal.ensures.is))
    c.room_answer.ensures
