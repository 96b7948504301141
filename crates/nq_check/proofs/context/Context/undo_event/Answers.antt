use Rattle.std.proofs.Common.{ap, sym, ◌∙◌}
use Rattle.std.specs.Prelude.{is_ok}
use Rattle.nq_history.proofs.MarkingLemmas.{marked_can}
use Rattle.nq_check.proofs.UndoLemmas.{undo_claimed, undo_denied}
use Rattle.nq_check.proofs.context.Context.undo_event.Goals as goal

pub undo_back_through-requires : goal.undo_back_through-requires
undo_back_through-requires c =
    record { marks = λ i d below. marked_can c.args.self.now.bank c.args.self.now.history c.requires.whole.history.marks i d below }

pub returns-in-Ok : goal.returns-in-Ok
returns-in-Ok c =
    let whole = c.requires.whole in
    let undone = c.undo_back_through in
    undo_claimed c.args.self.now _ undone.new.bank undone.new.self c.args.s undone.result c.args.text.items c.is_sound.ensures whole c.requires.named (sym c.is_plain.ensures ∙ c.if-not-is_plain.false)
    (ap is_ok c.in-Ok.is) undone.ensures.answer c.in-Ok.ensures.bank (rw c.in-Ok.is at (undone.ensures.events c.is_sound.ensures whole.history.stands c.requires.named))
    (rw c.in-Ok.is at (undone.ensures.marked whole.history.marks)) (rw c.in-Ok.is at (undone.ensures.stands whole.history.marks whole.history.stands))
    c.begin_block.ensures.whole c.begin_block.ensures.state c.requires.text

pub returns-in-Err : goal.returns-in-Err
returns-in-Err c = undo_denied c.args.self.now c.args.s c.undo_back_through.result c.is_sound.ensures c.requires.whole c.requires.named (ap is_ok c.in-Err.is) c.undo_back_through.ensures.answer
