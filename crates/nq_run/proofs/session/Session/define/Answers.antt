use Rattle.std.proofs.Common.{◌≡◌, true, List, map, refl, sym, subst, ◌∙◌}
use Rattle.std.specs.Prelude.{None}
use Rattle.nq_sexp.specs.Tree.{tree}
use Rattle.nq_bank.specs.declared.node.Sym.{Sym}
use Rattle.nq_bank.specs.Content.{term_at, text_at}
use Rattle.nq_bank.specs.Shells.{texts_at}
use Rattle.nq_event.specs.EventsAt.{measure_at}
use Rattle.nq_history.specs.declared.entry.EntryKind.TheVariants as kind
use Rattle.nq_block.specs.Blocks.{IsBlock}
use Rattle.nq_block.specs.Closings.{CanDefine, defined_at}
use Rattle.nq_comment.specs.ReportViews.{answer_of}
use Rattle.nq_events.specs.Events as model
use Rattle.nq_run.specs.HistoryView.{history_of}
use Rattle.nq_run.proofs.DefinitionLemmas.{defn_closes, defn_hindered, defn_outcome, defn_ready, defn_taken}
use Rattle.nq_run.proofs.NameLemmas.{accepted}
use Rattle.nq_run.proofs.TakingLemmas.{hindered}
use Rattle.nq_run.proofs.session.Session.define.Goals as goal

pub returns-in-Some-clause-taken : goal.returns-in-Some-clause-taken
returns-in-Some-clause-taken g c =
    let bank = c.args.self.bank in
    let form = tree c.args.given.form.now in
    let name = text_at bank c.args.name in
    let body = term_at bank c.args.body in
    let measures = map (measure_at bank) c.args.measures.now in
    hindered c.args.given.steps c.args.self c.args.given.mark form (model.Defn name (texts_at bank c.args.formals.items) body measures) c.args.given.logging (answer_of c.in-Some.answer) c.untaken.result c.untaken.ensures
    (defn_hindered (history_of c.args.self) bank name c.as_slice.result.now c.args.formals.items body measures c.as_slice.ensures.value c.in_ok-answer.field-0 c.in_ok-answer.ensures
    c.in-Some.answer c.in-Some.is)

pub block-requires-clause-closing : goal.block-requires-clause-closing
block-requires-clause-closing g c =
    let bank = c.args.self.bank in
    let h = history_of c.args.self in
    let name = text_at bank c.args.name in
    let body = term_at bank c.args.body in
    subst (λ (xs : List Sym). CanDefine h name (texts_at bank xs) body) (sym (c.in_ok-told.ensures.items ∙ c.as_slice-2.ensures.value))
    (defn_closes h bank name c.as_slice.result.now c.args.formals.items body (map (measure_at bank) c.args.measures.now) c.as_slice.ensures.value
    c.in_ok-answer.field-0 c.in_ok-answer.ensures c.in_default.is (sym c.in_ok-again.ensures ∙ c.if-again.false) c.requires.spelled.definition)

pub accepted-requires-clause-free : goal.accepted-requires-clause-free
accepted-requires-clause-free g c =
    let bank = c.args.self.bank in
    (defn_closes (history_of c.args.self) bank (text_at bank c.args.name) c.as_slice.result.now c.args.formals.items (term_at bank c.args.body)
    (map (measure_at bank) c.args.measures.now) c.as_slice.ensures.value c.in_ok-answer.field-0 c.in_ok-answer.ensures c.in_default.is (sym c.in_ok-again.ensures ∙ c.if-again.false) c.requires.spelled.definition).free

pub accepted-requires-clause-ready : goal.accepted-requires-clause-ready
accepted-requires-clause-ready g c =
    let bank = c.args.self.bank in
    defn_ready (history_of c.args.self) bank (text_at bank c.args.name) c.as_slice.result.now c.args.formals.items (term_at bank c.args.body)
    (map (measure_at bank) c.args.measures.now) c.as_slice.ensures.value c.in_ok-answer.field-0 c.in_ok-answer.ensures c.in_default.is (sym c.in_ok-again.ensures ∙ c.if-again.false) c.requires.spelled.definition

pub returns-clause-taken : goal.returns-clause-taken
returns-clause-taken g c =
    let bank = c.args.self.bank in
    let h = history_of c.args.self in
    let form = tree c.args.given.form.now in
    let name = text_at bank c.args.name in
    let body = term_at bank c.args.body in
    let measures = map (measure_at bank) c.args.measures.now in
    accepted c.args.given.steps c.args.self c.args.given.mark form (model.Defn name (texts_at bank c.args.formals.items) body measures) tt c.args.given.logging
    (record { name = c.args.name; kind = kind.Defn c.args.formals c.args.body None; mark = c.args.given.mark }) (defined_at bank c.args.name c.args.formals.items c.args.body) c.in_ok-block.block
    (defn_taken h bank name c.as_slice.result.now c.args.formals.items body measures c.as_slice.ensures.value c.in_ok-answer.field-0 c.in_ok-answer.ensures c.in_default.is)
    (defn_outcome h name (texts_at bank c.args.formals.items) body measures (sym c.in_ok-again.ensures ∙ c.if-again.false)) refl refl
    (subst (λ (xs : List Sym). c.args.given.logging ≡ true → IsBlock h (defined_at bank c.args.name xs c.args.body) c.in_ok-block.block)
    (c.in_ok-told.ensures.items ∙ c.as_slice-2.ensures.value) c.in_ok-block.ensures)
    c.accepted.result c.accepted.ensures.added c.accepted.ensures.answer c.accepted.ensures.block

pub define_recursive-requires-clause-free : goal.define_recursive-requires-clause-free
define_recursive-requires-clause-free g c =
    let bank = c.args.self.bank in
    defn_taken (history_of c.args.self) bank (text_at bank c.args.name) c.as_slice.result.now c.args.formals.items (term_at bank c.args.body) (map (measure_at bank) c.args.measures.now) c.as_slice.ensures.value
    c.in_ok-answer.field-0 c.in_ok-answer.ensures c.in_default.is

pub define_recursive-requires-clause-recursive : goal.define_recursive-requires-clause-recursive
define_recursive-requires-clause-recursive g c = sym c.in_ok-again.ensures ∙ c.if-again.true
