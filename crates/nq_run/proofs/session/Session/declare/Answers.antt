use Rattle.std.proofs.Common.{ℕ, [], ◌∷◌, ◌++◌, length, refl, ap}
use Rattle.std.proofs.lemmas.List.{length-map}
use Rattle.nq_sexp.specs.Tree.{tree}
use Rattle.nq_logic.specs.Histories.{Declaration}
use Rattle.nq_bank.specs.Content.{text_at}
use Rattle.nq_bank.specs.Shells.{texts_at}
use Rattle.nq_history.specs.declared.entry.EntryKind.TheVariants as kind
use Rattle.nq_log.specs.States.{Adds}
use Rattle.nq_block.specs.declared.closing.Closing.TheVariants as closing
use Rattle.nq_block.specs.Closings.{claim_at}
use Rattle.nq_comment.specs.ReportViews.{answer_of}
use Rattle.nq_events.specs.Events as model
use Rattle.nq_run.specs.HistoryView.{history_of}
use Rattle.nq_run.proofs.NameLemmas.{accepted, dcl_free, none_told, some_told}
use Rattle.nq_run.proofs.ReadyLemmas.{declared_ready}
use Rattle.nq_run.proofs.TakingLemmas.{hindered}
use Rattle.nq_run.proofs.session.Session.declare.Goals as goal

pub returns-in-Some-clause-taken : goal.returns-in-Some-clause-taken
returns-in-Some-clause-taken g c =
    let bank = c.args.self.bank in
    hindered c.args.given.steps c.args.self c.args.given.mark (tree c.args.given.form.now) (model.Dcl (text_at bank c.args.name) (texts_at bank c.args.formals.now)) c.args.given.logging (answer_of c.in-Some.answer) c.untaken.result
    c.untaken.ensures (some_told c.in_ok-answer.field-0 c.in-Some.answer _ c.in_ok-answer.ensures c.in-Some.is)

pub block-requires-clause-closing : goal.block-requires-clause-closing
block-requires-clause-closing g c =
    let bank = c.args.self.bank in
    dcl_free (history_of c.args.self) (text_at bank c.args.name) (texts_at bank c.args.formals.now) c.requires.spelled.symbol
    (none_told c.in_ok-answer.field-0 _ c.in_ok-answer.ensures c.in_default.is)

pub accepted-requires-clause-free : goal.accepted-requires-clause-free
accepted-requires-clause-free g c =
    let bank = c.args.self.bank in
    dcl_free (history_of c.args.self) (text_at bank c.args.name) (texts_at bank c.args.formals.now) c.requires.spelled.symbol
    (none_told c.in_ok-answer.field-0 _ c.in_ok-answer.ensures c.in_default.is)

pub accepted-requires-clause-ready : goal.accepted-requires-clause-ready
accepted-requires-clause-ready g c =
    let bank = c.args.self.bank in
    declared_ready (history_of c.args.self) (text_at bank c.args.name)
    (dcl_free (history_of c.args.self) (text_at bank c.args.name) (texts_at bank c.args.formals.now) c.requires.spelled.symbol
    (none_told c.in_ok-answer.field-0 _ c.in_ok-answer.ensures c.in_default.is)) (length c.args.formals.now)

pub returns-clause-taken : goal.returns-clause-taken
returns-clause-taken g c =
    let bank = c.args.self.bank in
    let h = history_of c.args.self in
    let name = text_at bank c.args.name in
    let arity : ℕ = length c.args.formals.now in
    let many = length-map c.args.formals.now (text_at bank) in
    accepted c.args.given.steps c.args.self c.args.given.mark (tree c.args.given.form.now) (model.Dcl name (texts_at bank c.args.formals.now)) tt c.args.given.logging
    (record { name = c.args.name; kind = kind.Dcl arity; mark = c.args.given.mark }) (claim_at bank (closing.Dcl c.args.name arity)) c.in_ok-block.block
    (none_told c.in_ok-answer.field-0 _ c.in_ok-answer.ensures c.in_default.is) refl (ap (λ (n : ℕ). h ++ Declaration name n ∷ []) many) (ap (λ (n : ℕ). Adds (Declaration name n) ∷ []) many)
    c.in_ok-block.ensures c.accepted.result c.accepted.ensures.added c.accepted.ensures.answer c.accepted.ensures.block
