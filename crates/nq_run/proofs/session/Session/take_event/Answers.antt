use Rattle.std.proofs.Common.{List, map, refl, sym, subst}
use Rattle.std.specs.Prelude.{IfOk}
use Rattle.nq_sexp.specs.Tree.{tree}
use Rattle.nq_bank.specs.Content.{term_at, text_at}
use Rattle.nq_bank.specs.Shells.{texts_at}
use Rattle.nq_bank.specs.declared.node.Sym.{Sym}
use Rattle.nq_comment.specs.Reports as answer
use Rattle.nq_events.specs.Events as model
use Rattle.nq_event.specs.EventsAt.{event_at, measure_at}
use Rattle.nq_event.specs.declared.event.Event.{Event}
use Rattle.nq_event.specs.declared.event.Measure.{Measure}
use Rattle.nq_run.specs.HistoryView.{history_of}
use Rattle.nq_run.specs.Sessions.{TakesEvent}
use Rattle.nq_spelling.specs.SpelledEvents.{IsSpelledEvent}
use Rattle.nq_run.proofs.HintLemmas.{hints_in}
use Rattle.nq_run.proofs.TakingLemmas.{passed_answered, untaken_as}
use Rattle.nq_run.proofs.session.Session.take_event.Goals as goal

pub prove_lemma-requires-clause-hint_terms : goal.prove_lemma-requires-clause-hint_terms
prove_lemma-requires-clause-hint_terms g c =
    let old = c.args.self in
    let spelled = subst (λ (event : Event). IsSpelledEvent (history_of old) (event_at old.bank event)) c.in-ProveLemma.is c.requires.spelled in
    hints_in old.bank old.history c.in-ProveLemma.hints spelled.1

pub returns-in-BootStrap-clause-takes : goal.returns-in-BootStrap-clause-takes
returns-in-BootStrap-clause-takes g c =
    let form = tree c.args.given.form.now in
    subst (λ (event : Event). IfOk c.boot_strap.result (TakesEvent c.args.given.steps c.args.self c.args.given.mark form (event_at c.args.self.bank event) c.args.given.logging)) (sym c.in-BootStrap.is) (c.boot_strap.ensures.taken c.args.given.steps c.args.given.mark form)

pub returns-in-AddShell-clause-takes : goal.returns-in-AddShell-clause-takes
returns-in-AddShell-clause-takes g c =
    let form = tree c.args.given.form.now in
    subst (λ (event : Event). IfOk c.add_shell.result (TakesEvent c.args.given.steps c.args.self c.args.given.mark form (event_at c.args.self.bank event) c.args.given.logging)) (sym c.in-AddShell.is) c.add_shell.ensures.taken

pub returns-in-Dcl-clause-takes : goal.returns-in-Dcl-clause-takes
returns-in-Dcl-clause-takes g c =
    let bank = c.args.self.bank in
    let form = tree c.args.given.form.now in
    let here = subst (λ (formals : List Sym). IfOk c.declare.result (TakesEvent c.args.given.steps c.args.self c.args.given.mark form (model.Dcl (text_at bank c.in-Dcl.name) (texts_at bank formals)) c.args.given.logging))
    c.as_slice.ensures.value c.declare.ensures.taken in
    subst (λ (event : Event). IfOk c.declare.result (TakesEvent c.args.given.steps c.args.self c.args.given.mark form (event_at bank event) c.args.given.logging)) (sym c.in-Dcl.is) here

pub returns-in-Defn-clause-takes : goal.returns-in-Defn-clause-takes
returns-in-Defn-clause-takes g c =
    let bank = c.args.self.bank in
    let form = tree c.args.given.form.now in
    let here = subst (λ (measures : List Measure).
    IfOk c.define.result (TakesEvent c.args.given.steps c.args.self c.args.given.mark form (model.Defn (text_at bank c.in-Defn.name) (texts_at bank c.in-Defn.formals.items) (term_at bank c.in-Defn.body) (map (measure_at bank) measures)) c.args.given.logging))
    c.as_slice-in-Defn.ensures.value c.define.ensures.taken in
    subst (λ (event : Event). IfOk c.define.result (TakesEvent c.args.given.steps c.args.self c.args.given.mark form (event_at bank event) c.args.given.logging)) (sym c.in-Defn.is) here

pub returns-in-AddAxiom-clause-takes : goal.returns-in-AddAxiom-clause-takes
returns-in-AddAxiom-clause-takes g c =
    let form = tree c.args.given.form.now in
    subst (λ (event : Event). IfOk c.add_axiom.result (TakesEvent c.args.given.steps c.args.self c.args.given.mark form (event_at c.args.self.bank event) c.args.given.logging)) (sym c.in-AddAxiom.is) c.add_axiom.ensures.taken

pub returns-in-ProveLemma-clause-takes : goal.returns-in-ProveLemma-clause-takes
returns-in-ProveLemma-clause-takes g c =
    let form = tree c.args.given.form.now in
    subst (λ (event : Event). IfOk c.prove_lemma.result (TakesEvent c.args.given.steps c.args.self c.args.given.mark form (event_at c.args.self.bank event) c.args.given.logging)) (sym c.in-ProveLemma.is) c.prove_lemma.ensures.taken

pub returns-in-Toggle-clause-takes : goal.returns-in-Toggle-clause-takes
returns-in-Toggle-clause-takes g c =
    let form = tree c.args.given.form.now in
    subst (λ (event : Event). IfOk c.toggle.result (TakesEvent c.args.given.steps c.args.self c.args.given.mark form (event_at c.args.self.bank event) c.args.given.logging)) (sym c.in-Toggle.is) c.toggle.ensures.taken

pub returns-in-Undo-clause-takes : goal.returns-in-Undo-clause-takes
returns-in-Undo-clause-takes g c =
    let form = tree c.args.given.form.now in
    subst (λ (event : Event). IfOk c.undo.result (TakesEvent c.args.given.steps c.args.self c.args.given.mark form (event_at c.args.self.bank event) c.args.given.logging)) (sym c.in-Undo.is) c.undo.ensures.taken

pub returns-in-Skipped-clause-takes : goal.returns-in-Skipped-clause-takes
returns-in-Skipped-clause-takes g c =
    let form = tree c.args.given.form.now in
    subst (λ (event : Event). TakesEvent c.args.given.steps c.args.self c.args.given.mark form (event_at c.args.self.bank event) c.args.given.logging c.untaken.result) (sym c.in-Skipped.is)
    (untaken_as c.args.given.steps c.args.self c.args.given.mark form model.Skipped c.args.given.logging answer.Skipped c.untaken.result c.untaken.ensures refl (passed_answered c.args.given.steps (history_of c.args.self) form))

pub returns-in-Skipped-clause-learnt : goal.returns-in-Skipped-clause-learnt
returns-in-Skipped-clause-learnt g c = subst (g.P.Prover.has_learnt c.args.prover.now) (sym c.untaken.ensures.entries) c.requires.learnt
