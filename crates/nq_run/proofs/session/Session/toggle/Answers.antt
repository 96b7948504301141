use Rattle.std.proofs.Common.{refl}
use Rattle.nq_sexp.specs.Tree.{tree}
use Rattle.nq_bank.specs.Content.{text_at}
use Rattle.nq_history.specs.declared.entry.EntryKind.TheVariants as kind
use Rattle.nq_block.specs.declared.closing.Closing.TheVariants as closing
use Rattle.nq_block.specs.Closings.{claim_at}
use Rattle.nq_comment.specs.ReportViews.{answer_of}
use Rattle.nq_events.specs.Events as model
use Rattle.nq_run.specs.HistoryView.{history_of}
use Rattle.nq_run.proofs.NameLemmas.{accepted, can_toggle, none_told, some_told}
use Rattle.nq_run.proofs.ReadyLemmas.{toggled_ready}
use Rattle.nq_run.proofs.TakingLemmas.{hindered}
use Rattle.nq_run.proofs.session.Session.toggle.Goals as goal

pub returns-in-Some-clause-taken : goal.returns-in-Some-clause-taken
returns-in-Some-clause-taken g c =
    let bank = c.args.self.bank in
    hindered c.args.given.steps c.args.self c.args.given.mark (tree c.args.given.form.now) (model.Toggle (text_at bank c.args.name) (text_at bank c.args.old) c.args.disabled) c.args.given.logging (answer_of c.in-Some.answer) c.untaken.result
    c.untaken.ensures (some_told c.in_ok-answer.field-0 c.in-Some.answer _ (c.in_ok-answer.ensures c.args.disabled) c.in-Some.is)

pub block-requires-clause-closing : goal.block-requires-clause-closing
block-requires-clause-closing g c =
    let bank = c.args.self.bank in
    can_toggle (history_of c.args.self) (text_at bank c.args.name) (text_at bank c.args.old) c.args.disabled c.requires.spelled
    (none_told c.in_ok-answer.field-0 _ (c.in_ok-answer.ensures c.args.disabled) c.in_default.is)

pub accepted-requires-clause-free : goal.accepted-requires-clause-free
accepted-requires-clause-free g c =
    let bank = c.args.self.bank in
    (can_toggle (history_of c.args.self) (text_at bank c.args.name) (text_at bank c.args.old) c.args.disabled c.requires.spelled
    (none_told c.in_ok-answer.field-0 _ (c.in_ok-answer.ensures c.args.disabled) c.in_default.is)).free

pub accepted-requires-clause-ready : goal.accepted-requires-clause-ready
accepted-requires-clause-ready g c =
    let bank = c.args.self.bank in
    toggled_ready (history_of c.args.self) (text_at bank c.args.name)
    (can_toggle (history_of c.args.self) (text_at bank c.args.name) (text_at bank c.args.old) c.args.disabled c.requires.spelled
    (none_told c.in_ok-answer.field-0 _ (c.in_ok-answer.ensures c.args.disabled) c.in_default.is)).free (text_at bank c.args.old) c.args.disabled

pub returns-clause-taken : goal.returns-clause-taken
returns-clause-taken g c =
    let bank = c.args.self.bank in
    accepted c.args.given.steps c.args.self c.args.given.mark (tree c.args.given.form.now) (model.Toggle (text_at bank c.args.name) (text_at bank c.args.old) c.args.disabled) tt c.args.given.logging
    (record { name = c.args.name; kind = kind.Toggle c.args.old c.args.disabled; mark = c.args.given.mark }) (claim_at bank (closing.Toggle c.args.name c.args.old c.args.disabled)) c.in_ok-block.block
    (none_told c.in_ok-answer.field-0 _ (c.in_ok-answer.ensures c.args.disabled) c.in_default.is) refl refl refl c.in_ok-block.ensures
    c.accepted.result c.accepted.ensures.added c.accepted.ensures.answer c.accepted.ensures.block
