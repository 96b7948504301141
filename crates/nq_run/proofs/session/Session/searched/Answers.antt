use Rattle.std.proofs.Common.{◌≡◌, ◌∙◌, ◌++◌, ◌∷◌, [], map, sym, subst}
use Rattle.std.specs.Prelude.{IfOk}
use Rattle.nq_sexp.specs.Tree.{tree}
use Rattle.nq_logic.specs.Derivations.{Derivable}
use Rattle.nq_logic.specs.Formulas.{holds}
use Rattle.nq_logic.specs.Histories as logic
use Rattle.nq_bank.specs.Content.{Content, term_at, text_at}
use Rattle.nq_history.specs.Events.{class_of, events_at, HistoryStands}
use Rattle.nq_kernel.specs.Over.{TermIsIn}
use Rattle.nq_kernel.specs.Ready.{IsReady}
use Rattle.nq_goals.specs.Hints.{first_goal}
use Rattle.nq_answers.specs.Shown.{ShowsTrace}
use Rattle.std.proofs.lemmas.Result.{IfOk-weaker}
use Rattle.nq_comment.specs.Reports.{OutOfSteps}
use Rattle.nq_comment.specs.ReportViews.{answer_of, steps_of}
use Rattle.nq_comment.specs.declared.answer.FormAnswer.TheVariants as answers
use Rattle.nq_event.specs.EventsAt.{hints_at}
use Rattle.nq_run.specs.GivingUp.{IsLeft}
use Rattle.nq_run.specs.Sessions.{IsUntaken, TriesLemma}
use Rattle.nq_run.specs.HistoryView.{history_of, SessionStands}
use Rattle.nq_run.specs.declared.session.Session.{Session}
use Rattle.nq_run.proofs.TakingLemmas.{lemma_left, same_session}
use Rattle.nq_run.proofs.SearchedLemmas.{failed, moved, moved_derivable, never_fragment, ran_out, not_false}
use Rattle.nq_run.proofs.session.Session.searched.Goals as goal

pub judge-requires-clause-history : goal.judge-requires-clause-history
judge-requires-clause-history g c = c.requires.stands.history

pub judge-requires-clause-ready : goal.judge-requires-clause-ready
judge-requires-clause-ready g c = c.requires.stands.ready

pub judge-requires-clause-over : goal.judge-requires-clause-over
judge-requires-clause-over g c = c.requires.spelled.claimable.over

pub untaken-requires-clause-stands : goal.untaken-requires-clause-stands
untaken-requires-clause-stands g c =
    let old = c.args.self in
    let same = same_session old c.in_ok-judged.judged.bank c.in_ok-judged.ensures.bank in
    subst SessionStands (sym same) c.requires.stands

pub untaken-requires-in-OutOfSteps-clause-stands : goal.untaken-requires-in-OutOfSteps-clause-stands
untaken-requires-in-OutOfSteps-clause-stands g c =
    let old = c.args.self in
    let same = same_session old c.in_ok-judged.judged.bank c.in_ok-judged.ensures.bank in
    subst SessionStands (sym same) c.requires.stands

pub trace_proof-requires-clause-history : goal.trace_proof-requires-clause-history
trace_proof-requires-clause-history g c =
    subst (λ (b : Content). HistoryStands b c.args.self.history) (sym c.in_ok-judged.ensures.bank) c.requires.stands.history

pub trace_proof-requires-clause-ready : goal.trace_proof-requires-clause-ready
trace_proof-requires-clause-ready g c = subst (λ (b : Content). IsReady (events_at b c.args.self.history)) (sym c.in_ok-judged.ensures.bank) c.requires.stands.ready

pub trace_proof-requires-clause-over : goal.trace_proof-requires-clause-over
trace_proof-requires-clause-over g c = subst (λ (b : Content). TermIsIn b c.args.self.history c.args.lemma.goal) (sym c.in_ok-judged.ensures.bank) c.requires.spelled.claimable.over

pub proved-requires-clause-stands : goal.proved-requires-clause-stands
proved-requires-clause-stands g c =
    let old = c.args.self in
    let same = same_session old c.in_ok-traced-in-Moves.traced.bank (c.in_ok-traced-in-Moves.ensures.bank ∙ c.in_ok-judged.ensures.bank) in
    subst SessionStands (sym same) c.requires.stands

pub proved-requires-clause-shown : goal.proved-requires-clause-shown
proved-requires-clause-shown g c =
    let old = c.args.self in
    subst (λ (b : Content). Derivable (events_at b old.history) (holds (term_at b c.args.lemma.goal))) (sym (c.in_ok-traced-in-Moves.ensures.bank ∙ c.in_ok-judged.ensures.bank))
    (moved_derivable c.args.given.steps (history_of old) (term_at old.bank c.args.lemma.goal) c.args.found _ c.in-Moves.is c.requires.found)

pub unreachable-requires : goal.unreachable-requires
unreachable-requires g c = never_fragment c.args.found _ _ c.in-Fragment.is c.requires.other

pub returns-in-Some-clause-tries : goal.returns-in-Some-clause-tries
returns-in-Some-clause-tries g c =
    let bank = c.args.self.bank in
    let h = history_of c.args.self in
    let form = tree c.args.given.form.now in
    let name = text_at bank c.args.lemma.name in
    let t = term_at bank c.args.lemma.goal in
    let classes = map class_of c.args.classes.items in
    let hints = hints_at bank c.args.lemma.hints.now in
    let old = c.args.self in
    let same = same_session old c.in_ok-judged.judged.bank c.in_ok-judged.ensures.bank in
    failed c.args.given.steps old c.args.given.mark form name classes t hints c.in_ok-judged.judged c.args.found c.args.given.logging c.requires.other c.requires.found c.in_ok-judged.ensures.told c.failing-known.result c.is_proved-proved.result c.failing-known.ensures c.in-Some.cause c.untaken.result c.in-Some.is
    (subst (λ (s : Session). IsUntaken s c.args.given.mark (answer_of (answers.Failed c.in_ok-judged.judged.text c.in_ok-judged.judged.steps c.in-Some.cause)) c.untaken.result) same c.untaken.ensures)

pub returns-in-Some-clause-learnt : goal.returns-in-Some-clause-learnt
returns-in-Some-clause-learnt g c = subst (g.P.Prover.has_learnt c.args.prover.now) (sym c.untaken.ensures.entries) c.requires.learnt

pub returns-in_ok-traced-in-Moves-clause-tries : goal.returns-in_ok-traced-in-Moves-clause-tries
returns-in_ok-traced-in-Moves-clause-tries g c =
    let bank = c.args.self.bank in
    let h = history_of c.args.self in
    let form = tree c.args.given.form.now in
    let name = text_at bank c.args.lemma.name in
    let t = term_at bank c.args.lemma.goal in
    let classes = map class_of c.args.classes.items in
    let hints = hints_at bank c.args.lemma.hints.now in
    let old = c.args.self in
    let back = c.in_ok-traced-in-Moves.ensures.bank ∙ c.in_ok-judged.ensures.bank in
    let trace =
    subst (λ (b : Content). ShowsTrace (events_at b old.history) (hints_at b c.args.lemma.hints.now) (first_goal (events_at b old.history) (hints_at b c.args.lemma.hints.now) (term_at b c.args.lemma.goal)) (steps_of c.in_ok-traced-in-Moves.traced.steps.items)) c.in_ok-judged.ensures.bank
    c.in_ok-traced-in-Moves.ensures.told in
    moved c.args.given.steps old c.args.given.mark form name classes t hints c.in_ok-judged.judged c.args.found c.args.given.logging c.requires.other c.requires.found c.in_ok-judged.ensures.told c.failing-known.result c.is_proved-proved.result c.failing-known.ensures c.proved.result _ c.in_ok-traced-in-Moves.traced.steps c.args.block
    c.in_default.is c.in-Moves.is trace c.requires.written
    (subst (λ (b : Content). IfOk c.proved.result (λ r. history_of r.session ≡ events_at b old.history ++ logic.Lemma (text_at b c.args.lemma.name) classes (term_at b c.args.lemma.goal) ∷ [])) back c.proved.ensures.after)
    c.proved.ensures.stands_after (subst (λ (b : Content). IfOk c.proved.result (λ r. r.session.bank ≡ b)) back c.proved.ensures.bank) c.proved.ensures.answer c.proved.ensures.block

pub returns-in-OutOfSteps-clause-tries : goal.returns-in-OutOfSteps-clause-tries
returns-in-OutOfSteps-clause-tries g c =
    let bank = c.args.self.bank in
    let h = history_of c.args.self in
    let form = tree c.args.given.form.now in
    let name = text_at bank c.args.lemma.name in
    let t = term_at bank c.args.lemma.goal in
    let classes = map class_of c.args.classes.items in
    let hints = hints_at bank c.args.lemma.hints.now in
    let old = c.args.self in
    let same = same_session old c.in_ok-judged.judged.bank c.in_ok-judged.ensures.bank in
    ran_out c.args.given.steps old c.args.given.mark form name classes t hints c.in_ok-judged.judged c.args.found c.args.given.logging c.requires.other c.requires.found c.in_ok-judged.ensures.told c.failing-known.result c.is_proved-proved.result c.failing-known.ensures c.untaken-in-OutOfSteps.result c.in_default.is c.in-OutOfSteps.is
    (subst (λ (s : Session). IsUntaken s c.args.given.mark OutOfSteps c.untaken-in-OutOfSteps.result) same c.untaken-in-OutOfSteps.ensures)

pub returns-in-OutOfSteps-clause-learnt : goal.returns-in-OutOfSteps-clause-learnt
returns-in-OutOfSteps-clause-learnt g c = subst (g.P.Prover.has_learnt c.args.prover.now) (sym c.untaken-in-OutOfSteps.ensures.entries) c.requires.learnt

pub given_up-requires-clause-stands : goal.given_up-requires-clause-stands
given_up-requires-clause-stands g c =
    let old = c.args.self in
    let same = same_session old c.in_ok-judged.judged.bank c.in_ok-judged.ensures.bank in
    subst SessionStands (sym same) c.requires.stands

pub returns-in-Unknown-clause-tries : goal.returns-in-Unknown-clause-tries
returns-in-Unknown-clause-tries g c =
    let old = c.args.self in
    let bank = old.bank in
    let form = tree c.args.given.form.now in
    let name = text_at bank c.args.lemma.name in
    let t = term_at bank c.args.lemma.goal in
    let classes = map class_of c.args.classes.items in
    let hints = hints_at bank c.args.lemma.hints.now in
    let left =
    subst (λ (b : Content). IfOk c.given_up.result (IsLeft c.args.given.steps (record { bank = b; history = old.history }) c.args.given.mark form (hints_at b c.args.lemma.hints.now) (term_at b c.args.lemma.goal))) c.in_ok-judged.ensures.bank
    c.given_up.ensures in
    IfOk-weaker c.given_up.result (IsLeft c.args.given.steps old c.args.given.mark form hints t) (TriesLemma c.args.given.steps old c.args.given.mark form name classes t hints c.args.given.logging)
    (λ r kept. lemma_left c.args.given.steps old c.args.given.mark form name classes t hints kept.answer c.args.given.logging r kept.not_taken kept.tried kept.untaken) left

pub returns-in-Unknown-clause-learnt : goal.returns-in-Unknown-clause-learnt
returns-in-Unknown-clause-learnt g c =
    IfOk-weaker c.given_up.result _ (λ r. g.P.Prover.has_learnt c.args.prover.now r.session.history) (λ r kept. subst (g.P.Prover.has_learnt c.args.prover.now) (sym kept.untaken.entries) c.requires.learnt) c.given_up.ensures
