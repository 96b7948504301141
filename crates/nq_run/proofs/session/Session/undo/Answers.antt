use Rattle.std.proofs.Common.{ap, subst, ◌∙◌}
use Rattle.std.specs.Prelude.{Err}
use Rattle.nq_sexp.specs.Tree.{tree}
use Rattle.nq_bank.specs.Content.{text_at}
use Rattle.nq_comment.specs.ReportViews.{answer_of}
use Rattle.nq_events.specs.Events as model
use Rattle.nq_events.specs.Refusals.{GroundEvent, NoSuchEvent}
use Rattle.nq_logic.specs.Terms.{Name}
use Rattle.nq_answers.specs.Steps.{refusal_answer}
use Rattle.nq_history.specs.Lookups.{IsUndo}
use Rattle.nq_history.specs.declared.history.UndoFault.{UndoFault}
use Rattle.nq_run.specs.HistoryView.{history_of}
use Rattle.nq_run.proofs.TakingLemmas.{hindered}
use Rattle.nq_run.proofs.UndoingLemmas.{undo_ground, undo_taken, undo_unknown}
use Rattle.nq_run.proofs.session.Session.undo.Goals as goal

pub block-requires-clause-closing : goal.block-requires-clause-closing
block-requires-clause-closing g c = (c.in-Ok.ensures.events c.args.self.bank c.is_sound.ensures c.requires.stands.history c.requires.name).event

pub undone-requires-clause-known : goal.undone-requires-clause-known
undone-requires-clause-known g c = (c.in-Ok.ensures.events c.args.self.bank c.is_sound.ensures c.requires.stands.history c.requires.name).known

pub undone-requires-clause-event : goal.undone-requires-clause-event
undone-requires-clause-event g c = (c.in-Ok.ensures.events c.args.self.bank c.is_sound.ensures c.requires.stands.history c.requires.name).event

pub undone-requires-clause-past : goal.undone-requires-clause-past
undone-requires-clause-past g c = (c.in-Ok.ensures.events c.args.self.bank c.is_sound.ensures c.requires.stands.history c.requires.name).past

pub returns-in_ok-block-in-Ok-clause-taken : goal.returns-in_ok-block-in-Ok-clause-taken
returns-in_ok-block-in-Ok-clause-taken g c =
    let old = c.args.self in
    undo_taken c.args.given.steps old c.undone.result c.args.given.mark (tree c.args.given.form.now) (text_at old.bank c.args.name) c.in-Ok.count c.args.given.logging c.in_ok-block-in-Ok.block
    (c.in-Ok.ensures.events old.bank c.is_sound.ensures c.requires.stands.history c.requires.name) c.undone.ensures.before c.undone.ensures.stands_after c.undone.ensures.bank c.in_ok-block-in-Ok.ensures

pub returns-in_ok-answer-in-Err-NoSuchEvent-clause-taken : goal.returns-in_ok-answer-in-Err-NoSuchEvent-clause-taken
returns-in_ok-answer-in-Err-NoSuchEvent-clause-taken g c =
    let old = c.args.self in
    let x = text_at old.bank c.args.name in
    let h = history_of old in
    let form = tree c.args.given.form.now in
    let answer = answer_of c.in_ok-answer-in-Err-NoSuchEvent.answer in
    let told = subst (λ (f : UndoFault). IsUndo x h (Err f)) c.in-Err-NoSuchEvent.field-0-is (c.in-Err-NoSuchEvent.ensures.events old.bank c.is_sound.ensures c.requires.stands.history c.requires.name) in
    hindered c.args.given.steps old c.args.given.mark form (model.Undo x) c.args.given.logging answer c.untaken.result c.untaken.ensures
    (undo_unknown h form x answer told (c.in_ok-answer-in-Err-NoSuchEvent.ensures ∙ ap (λ (n : Name). refusal_answer (NoSuchEvent n)) c.text.ensures.value))

pub returns-in_ok-answer-in-Err-GroundEvent-clause-taken : goal.returns-in_ok-answer-in-Err-GroundEvent-clause-taken
returns-in_ok-answer-in-Err-GroundEvent-clause-taken g c =
    let old = c.args.self in
    let x = text_at old.bank c.args.name in
    let h = history_of old in
    let form = tree c.args.given.form.now in
    let answer = answer_of c.in_ok-answer-in-Err-GroundEvent.answer in
    let told = subst (λ (f : UndoFault). IsUndo x h (Err f)) c.in-Err-GroundEvent.field-0-is (c.in-Err-GroundEvent.ensures.events old.bank c.is_sound.ensures c.requires.stands.history c.requires.name) in
    hindered c.args.given.steps old c.args.given.mark form (model.Undo x) c.args.given.logging answer c.untaken-in-Err-GroundEvent.result c.untaken-in-Err-GroundEvent.ensures
    (undo_ground h form x answer told (c.in_ok-answer-in-Err-GroundEvent.ensures ∙ ap (λ (n : Name). refusal_answer (GroundEvent n)) c.text-in-Err-GroundEvent.ensures.value))
