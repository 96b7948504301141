use Rattle.std.proofs.Common.{◌≡◌, ◌++◌, ◌∷◌, [], map, sym, refl, subst, ◌∙◌}
use Rattle.std.specs.Prelude.{IfOk}
use Rattle.nq_sexp.specs.Tree.{tree}
use Rattle.nq_logic.specs.Derivations.{Derivable}
use Rattle.nq_logic.specs.Formulas.{holds}
use Rattle.nq_logic.specs.Histories as logic
use Rattle.nq_bank.specs.Content.{Content, term_at, text_at}
use Rattle.nq_history.specs.Events.{class_of, events_at}
use Rattle.nq_history.specs.Hints.{HintsStand}
use Rattle.nq_kernel.specs.Hints.{HintsAreIn}
use Rattle.nq_event.specs.EventsAt.{hints_at}
use Rattle.nq_comment.specs.Reports.{Proved}
use Rattle.nq_run.specs.Answers.{quick_of}
use Rattle.nq_run.specs.HistoryView.{history_of, SessionStands}
use Rattle.nq_run.specs.Outcome.{AreBlocks}
use Rattle.nq_run.specs.Sessions.{IsFoundBy, TriesLemma, found_claims}
use Rattle.nq_run.proofs.TakingLemmas.{fragment_tried, proved_on, same_session, way_block, way_found}
use Rattle.nq_run.proofs.session.Session.try_formula.Goals as goal

pub proved-requires-clause-stands : goal.proved-requires-clause-stands
proved-requires-clause-stands g c = subst SessionStands (sym (same_session c.args.self c.in_ok-tried.tried.bank c.in_ok-tried.ensures.tried.same)) c.requires.stands

pub proved-requires-clause-shown : goal.proved-requires-clause-shown
proved-requires-clause-shown g c =
    let old = c.args.self in
    let told = c.in_ok-tried.ensures.tried in
    let found = way_found c.args.given.steps (history_of old) (term_at old.bank c.args.lemma.goal) c.in_ok-tried.tried.found c.in-Some.way (sym c.way_in.ensures ∙ c.in-Some.is) told.found in
    subst (λ (b : Content). Derivable (events_at b old.history) (holds (term_at b c.args.lemma.goal))) (sym told.same) found.1

pub searched-requires-clause-stands : goal.searched-requires-clause-stands
searched-requires-clause-stands g c = subst SessionStands (sym (same_session c.args.self c.in_ok-tried.tried.bank c.in_ok-tried.ensures.tried.same)) c.requires.stands

pub searched-requires-clause-hints : goal.searched-requires-clause-hints
searched-requires-clause-hints g c = subst (λ (b : Content). HintsStand b c.args.lemma.hints.now) (sym c.in_ok-tried.ensures.tried.same) c.requires.hints

pub searched-requires-clause-hint_terms : goal.searched-requires-clause-hint_terms
searched-requires-clause-hint_terms g c = subst (λ (b : Content). HintsAreIn b c.args.self.history c.args.lemma.hints.now) (sym c.in_ok-tried.ensures.tried.same) c.requires.hint_terms

pub searched-requires-clause-found : goal.searched-requires-clause-found
searched-requires-clause-found g c =
    let told = c.in_ok-tried.ensures.tried in
    subst (λ (b : Content). IsFoundBy c.args.given.steps (events_at b c.args.self.history) (term_at b c.args.lemma.goal) c.in_ok-tried.tried.found) (sym told.same) told.found

pub searched-requires-clause-other : goal.searched-requires-clause-other
searched-requires-clause-other g c = sym c.way_in.ensures ∙ c.in-None.is

pub searched-requires-clause-written : goal.searched-requires-clause-written
searched-requires-clause-written g c =
    λ on.
    let told = c.in_ok-tried.ensures.tried in
    subst (λ (b : Content). AreBlocks (events_at b c.args.self.history) (found_claims (text_at b c.args.lemma.name) (term_at b c.args.lemma.goal) c.in_ok-tried.tried.found) c.in_ok-tried.tried.block) (sym told.same)
    (told.written on)

pub returns-in-Some-clause-tries : goal.returns-in-Some-clause-tries
returns-in-Some-clause-tries g c =
    let old = c.args.self in
    let bank = c.args.self.bank in
    let h = history_of c.args.self in
    let form = tree c.args.given.form.now in
    let name = text_at bank c.args.lemma.name in
    let t = term_at bank c.args.lemma.goal in
    let classes = map class_of c.args.classes.items in
    let hints = hints_at bank c.args.lemma.hints.now in
    let tried = c.in_ok-tried.tried in
    let told = c.in_ok-tried.ensures.tried in
    let way = c.in-Some.way in
    let is = sym c.way_in.ensures ∙ c.in-Some.is in
    let found = way_found c.args.given.steps h t tried.found way is told.found in
    proved_on c.args.given.steps c.proved.result old c.args.given.mark form name classes t hints c.proved_by.result (Proved (quick_of way)) c.args.given.logging tried.block refl (fragment_tried c.args.given.steps h form hints t way found.0 found.1)
    (subst (λ (b : Content). IfOk c.proved.result (λ r. history_of r.session ≡ events_at b old.history ++ logic.Lemma (text_at b c.args.lemma.name) classes (term_at b c.args.lemma.goal) ∷ [])) told.same c.proved.ensures.after)
    c.proved.ensures.stands_after (subst (λ (b : Content). IfOk c.proved.result (λ r. r.session.bank ≡ b)) told.same c.proved.ensures.bank) c.proved.ensures.answer c.proved_by.ensures c.proved.ensures.block (λ on. way_block h name t tried.found way tried.block is (told.written on))

pub returns-in-None-clause-tries : goal.returns-in-None-clause-tries
returns-in-None-clause-tries g c =
    let old = c.args.self in
    let form = tree c.args.given.form.now in
    let classes = map class_of c.args.classes.items in
    subst (λ (b : Content). IfOk c.searched.result (TriesLemma c.args.given.steps (record { bank = b; history = old.history }) c.args.given.mark form (text_at b c.args.lemma.name) classes (term_at b c.args.lemma.goal) (hints_at b c.args.lemma.hints.now) c.args.given.logging))
    c.in_ok-tried.ensures.tried.same c.searched.ensures.tries
