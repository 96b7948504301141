use Rattle.std.proofs.Common.{ap, map, sym, subst, ◌∙◌}
use Rattle.std.proofs.lemmas.Result.{IfOk-weaker}
use Rattle.nq_sexp.specs.Tree.{tree}
use Rattle.nq_bank.specs.Content.{term_at, text_at}
use Rattle.nq_history.specs.Events.{class_of}
use Rattle.nq_comment.specs.ReportViews.{answer_of}
use Rattle.nq_event.specs.EventsAt.{hints_at}
use Rattle.nq_events.specs.Events as model
use Rattle.nq_answers.specs.Steps.{refused}
use Rattle.nq_run.specs.HistoryView.{history_of}
use Rattle.nq_run.specs.Sessions.{TriesLemma}
use Rattle.nq_run.proofs.TakingLemmas.{free_name, hindered, lemma_is, told_none, told_some, tried_lemma}
use Rattle.nq_run.proofs.session.Session.prove_lemma.Goals as goal

pub try_formula-requires-clause-free : goal.try_formula-requires-clause-free
try_formula-requires-clause-free g c =
    let bank = c.args.self.bank in
    let h = history_of c.args.self in
    let form = tree c.args.given.form.now in
    let name = text_at bank c.args.lemma.name in
    let t = term_at bank c.args.lemma.goal in
    let classes = map class_of c.args.classes.items in
    let hints = hints_at bank c.args.lemma.hints.now in
    let none = told_none h name c.as_slice.result.now c.args.classes.items t _ c.as_slice.ensures.value c.in_ok-answer.ensures c.in-None.is in
    free_name h name classes t none c.requires.spelled

pub returns-in-Some-clause-taken : goal.returns-in-Some-clause-taken
returns-in-Some-clause-taken g c =
    let bank = c.args.self.bank in
    let h = history_of c.args.self in
    let form = tree c.args.given.form.now in
    let name = text_at bank c.args.lemma.name in
    let t = term_at bank c.args.lemma.goal in
    let classes = map class_of c.args.classes.items in
    let hints = hints_at bank c.args.lemma.hints.now in
    let some = told_some h name c.as_slice.result.now c.args.classes.items t _ c.in-Some.answer c.as_slice.ensures.value c.in_ok-answer.ensures c.in-Some.is in
    hindered c.args.given.steps c.args.self c.args.given.mark form (model.ProveLemma name classes t hints) c.args.given.logging (answer_of c.in-Some.answer) c.untaken.result c.untaken.ensures (some ∙ sym (ap refused (lemma_is h name classes t hints)))

pub returns-in-Some-clause-learnt : goal.returns-in-Some-clause-learnt
returns-in-Some-clause-learnt g c = subst (g.P.Prover.has_learnt c.args.prover.now) (sym c.untaken.ensures.entries) c.requires.learnt

pub returns-in-None-clause-taken : goal.returns-in-None-clause-taken
returns-in-None-clause-taken g c =
    let bank = c.args.self.bank in
    let h = history_of c.args.self in
    let form = tree c.args.given.form.now in
    let name = text_at bank c.args.lemma.name in
    let t = term_at bank c.args.lemma.goal in
    let classes = map class_of c.args.classes.items in
    let hints = hints_at bank c.args.lemma.hints.now in
    let none = told_none h name c.as_slice.result.now c.args.classes.items t _ c.as_slice.ensures.value c.in_ok-answer.ensures c.in-None.is in
    IfOk-weaker c.try_formula.result (TriesLemma c.args.given.steps c.args.self c.args.given.mark form name classes t hints c.args.given.logging) _ (λ r tries. tried_lemma c.args.given.steps c.args.self c.args.given.mark form name classes t hints c.args.given.logging r none tries) c.try_formula.ensures.tries
