use Rattle.std.proofs.Common.{ℕ, ap, arith, subst, sym, take, ◌∙◌}
use Rattle.nq_bank.specs.Content.{text_at}
use Rattle.nq_history.specs.Lookups.{IsUndo}
use Rattle.nq_history.proofs.MarkingLemmas.{marked_can}
use Rattle.nq_history.proofs.UndoLemmas.{undo_told}
use Rattle.nq_run.specs.HistoryView.{history_of}
use Rattle.nq_run.specs.declared.session.Session.{Session}
use Rattle.nq_run.proofs.SessionLemmas.{no_fault, undone_bank, undone_events, undone_fewer, undone_stands, undone_take}
use Rattle.nq_run.proofs.session.Session.undone.Goals as goal

pub undo_back_through-requires : goal.undo_back_through-requires
undo_back_through-requires g c = record { marks = marked_can c.args.self.bank c.args.self.history c.requires.stands.marked }

pub unreachable-requires : goal.unreachable-requires
unreachable-requires g c =
    let old = c.args.self in
    let x = text_at old.bank c.args.name in
    no_fault (history_of old) x c.in-Err.field-0
    (subst (IsUndo x (history_of old)) (sym c.in-Err.ensures.answer) (undo_told old.bank c.args.name old.history c.is_sound.ensures c.requires.stands.history c.requires.name))
    c.requires.known c.requires.past

pub forget-requires : goal.forget-requires
forget-requires g c =
    let new : Session = record { bank = c.undo_back_through.new.bank; history = c.undo_back_through.new.self } in
    let told = c.in-Ok.ensures in
    let fewer = undone_fewer c.args.self c.args.name c.in-Ok.field-0 new c.requires.stands told.answer told.history told.bank in
    record { entries = c.args.self.history; learnt = c.requires.learnt; within = omega (arith, fewer, c.len.ensures) }

pub returns-clause-before : goal.returns-clause-before
returns-clause-before g c =
    let new : Session = record { bank = c.undo_back_through.new.bank; history = c.undo_back_through.new.self } in
    let told = c.in-Ok.ensures in
    undone_events c.args.self c.args.name c.in-Ok.field-0 new c.requires.stands told.answer told.history told.bank
    ∙ told.events c.is_sound.ensures c.requires.stands.history c.requires.name

pub returns-clause-stands_after : goal.returns-clause-stands_after
returns-clause-stands_after g c =
    let new : Session = record { bank = c.undo_back_through.new.bank; history = c.undo_back_through.new.self } in
    let told = c.in-Ok.ensures in
    undone_stands c.events_are_spelled.ensures.stay c.args.self new (text_at c.args.self.bank c.args.name) c.requires.stands
    (told.stands c.requires.stands.marked c.requires.stands.history) (told.marked c.requires.stands.marked)
    (undone_events c.args.self c.args.name c.in-Ok.field-0 new c.requires.stands told.answer told.history told.bank
    ∙ told.events c.is_sound.ensures c.requires.stands.history c.requires.name)

pub returns-clause-bank : goal.returns-clause-bank
returns-clause-bank g c =
    let new : Session = record { bank = c.undo_back_through.new.bank; history = c.undo_back_through.new.self } in
    let told = c.in-Ok.ensures in
    undone_bank c.args.self c.args.name c.in-Ok.field-0 new c.requires.stands told.answer told.history told.bank

pub returns-clause-learnt_after : goal.returns-clause-learnt_after
returns-clause-learnt_after g c =
    let new : Session = record { bank = c.undo_back_through.new.bank; history = c.undo_back_through.new.self } in
    let told = c.in-Ok.ensures in
    subst (g.P.Prover.has_learnt c.forget.new.self)
    (ap (λ (n : ℕ). take n c.args.self.history) c.len.ensures ∙ undone_take c.args.self c.args.name c.in-Ok.field-0 new c.requires.stands told.answer told.history told.bank)
    (c.forget.ensures c.args.self.history c.requires.learnt)
