use Rattle.std.proofs.Common.{map, ap, refl, sym, ◌∙◌}
use Rattle.nq_sexp.specs.Tree.{tree}
use Rattle.nq_bank.specs.Content.{term_at, text_at}
use Rattle.nq_history.specs.declared.entry.Entry.{Entry}
use Rattle.nq_history.specs.declared.entry.EntryKind.TheVariants as kind
use Rattle.nq_history.specs.Events.{class_of}
use Rattle.nq_comment.specs.ReportViews.{answer_of}
use Rattle.nq_events.specs.Events as model
use Rattle.nq_answers.specs.Steps.{refused}
use Rattle.nq_run.specs.HistoryView.{history_of}
use Rattle.nq_run.proofs.ReadyLemmas.{axiom_ready}
use Rattle.nq_run.proofs.TakingLemmas.{axiom_is, axiom_taken_on, free_name, hindered, told_none, told_some}
use Rattle.nq_run.proofs.session.Session.add_axiom.Goals as goal

pub block-requires-clause-closing : goal.block-requires-clause-closing
block-requires-clause-closing g c =
    let bank = c.args.self.bank in
    let h = history_of c.args.self in
    let form = tree c.args.given.form.now in
    let name = text_at bank c.args.name in
    let t = term_at bank c.args.term in
    let classes = map class_of c.args.classes.items in
    let none = told_none h name c.as_slice.result.now c.args.classes.items t _ c.as_slice.ensures.value c.in_ok-answer.ensures c.in-None.is in
    record { free = free_name h name classes t none c.requires.spelled; claimable = c.requires.spelled.claimable }

pub accepted-requires-clause-free : goal.accepted-requires-clause-free
accepted-requires-clause-free g c =
    let bank = c.args.self.bank in
    let h = history_of c.args.self in
    let form = tree c.args.given.form.now in
    let name = text_at bank c.args.name in
    let t = term_at bank c.args.term in
    let classes = map class_of c.args.classes.items in
    let none = told_none h name c.as_slice.result.now c.args.classes.items t _ c.as_slice.ensures.value c.in_ok-answer.ensures c.in-None.is in
    free_name h name classes t none c.requires.spelled

pub accepted-requires-clause-ready : goal.accepted-requires-clause-ready
accepted-requires-clause-ready g c =
    let bank = c.args.self.bank in
    let h = history_of c.args.self in
    let form = tree c.args.given.form.now in
    let name = text_at bank c.args.name in
    let t = term_at bank c.args.term in
    let classes = map class_of c.args.classes.items in
    let none = told_none h name c.as_slice.result.now c.args.classes.items t _ c.as_slice.ensures.value c.in_ok-answer.ensures c.in-None.is in
    axiom_ready h name (free_name h name classes t none c.requires.spelled) classes t c.requires.spelled

pub returns-in-Some-clause-taken : goal.returns-in-Some-clause-taken
returns-in-Some-clause-taken g c =
    let bank = c.args.self.bank in
    let h = history_of c.args.self in
    let form = tree c.args.given.form.now in
    let name = text_at bank c.args.name in
    let t = term_at bank c.args.term in
    let classes = map class_of c.args.classes.items in
    let some = told_some h name c.as_slice.result.now c.args.classes.items t _ c.in-Some.answer c.as_slice.ensures.value c.in_ok-answer.ensures c.in-Some.is in
    hindered c.args.given.steps c.args.self c.args.given.mark form (model.AddAxiom name classes t) c.args.given.logging (answer_of c.in-Some.answer) c.untaken.result c.untaken.ensures (some ∙ sym (ap refused (axiom_is h name classes t)))

pub returns-in_ok-block-in-None-clause-taken : goal.returns-in_ok-block-in-None-clause-taken
returns-in_ok-block-in-None-clause-taken g c =
    let bank = c.args.self.bank in
    let h = history_of c.args.self in
    let form = tree c.args.given.form.now in
    let name = text_at bank c.args.name in
    let t = term_at bank c.args.term in
    let classes = map class_of c.args.classes.items in
    let none = told_none h name c.as_slice.result.now c.args.classes.items t _ c.as_slice.ensures.value c.in_ok-answer.ensures c.in-None.is in
    let entry : Entry = record { name = c.args.name; kind = kind.Axiom c.args.classes c.args.term; mark = c.args.given.mark } in
    axiom_taken_on c.args.given.steps c.args.self c.args.given.mark form entry name classes t c.args.given.logging c.in_ok-block-in-None.block c.accepted.result none refl
    c.accepted.ensures.added c.accepted.ensures.answer c.accepted.ensures.block c.in_ok-block-in-None.ensures
