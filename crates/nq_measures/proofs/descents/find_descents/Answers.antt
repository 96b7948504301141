use Rattle.std.proofs.Common.{List, [], ℕ, sym, subst}
use Rattle.nq_calls.specs.declared.calls.Site.{Site}
use Rattle.nq_bank.specs.Content.{text_at, term_at}
use Rattle.nq_bank.specs.Shells.{texts_at}
use Rattle.nq_replay.proofs.UncountedLemmas.{grown_refl, grown_trans}
use Rattle.nq_measures.specs.Trials.{AllFallBy, DescendsAt, IsFallLine, IsSiteOf}
use Rattle.nq_measures.proofs.GrownLemmas.{trial_still, sites_still, all_stand}
use Rattle.nq_measures.proofs.ReadyLemmas.{ready_on}
use Rattle.nq_measures.proofs.SearchLemmas.{lines_next}
use Rattle.nq_measures.proofs.FindingLemmas.{match_some, match_none, none_descends}
use Rattle.nq_measures.proofs.descents.find_descents.Goals as goal

pub loop-site-init : goal.loop-site-init
loop-site-init c =
    let w = c.args.work.now in
    record {
      grows = grown_refl c.args.history.now w c.requires.stands;
      falls = subst (λ (ns : List ℕ). AllFallBy w (text_at w.bank c.args.f) (texts_at w.bank c.args.formals.now) (term_at w.bank c.args.measure) [] ns) (sym c.new-falls.ensures.items) tt;
    }

pub find_descent-requires-clause-ready : goal.find_descent-requires-clause-ready
find_descent-requires-clause-ready c = ready_on c.args.history.now c.args.work.now.bank c.loop-site.work.bank c.requires.stands.history c.loop-site.invariant.grows.grows.bank c.requires.ready

pub find_descent-requires-clause-trial : goal.find_descent-requires-clause-trial
find_descent-requires-clause-trial c =
    let trial = c.requires.trial in
    trial_still c.args.history.now c.args.work.now.bank c.loop-site.work.bank c.args.f c.args.formals.now c.loop-site.invariant.grows.grows.bank c.requires.stands.history trial.function trial.formals_named c.args.measure trial

pub find_descent-requires-clause-site : goal.find_descent-requires-clause-site
find_descent-requires-clause-site c =
    let trial = c.requires.trial in
    subst (λ (s : Site). IsSiteOf c.args.history.now c.loop-site.work.bank c.args.f c.args.formals.now s) (sym c.site-item.is)
    (sites_still c.args.history.now c.args.work.now.bank c.loop-site.work.bank c.args.f c.args.formals.now c.loop-site.invariant.grows.grows.bank c.requires.stands.history trial.function trial.formals_named c.args.sites.now c.requires.sites c.loop-site.site-index c.site-item.result c.loop-site-test.true)

pub returns-in_err-find_descent-clause-grows : goal.returns-in_err-find_descent-clause-grows
returns-in_err-find_descent-clause-grows c = grown_trans c.args.history.now c.args.work.now c.loop-site.work c.find_descent.new.work c.loop-site.invariant.grows c.find_descent.ensures.grows

pub returns-in-None-clause-found : goal.returns-in-None-clause-found
returns-in-None-clause-found c =
    let trial = c.requires.trial in
    none_descends c.args.history.now c.args.work.now.bank c.loop-site.work.bank c.args.f c.args.formals.now c.args.x c.args.sites.now c.loop-site.site-index c.site-item.result c.loop-site.invariant.grows.grows.bank c.requires.stands.history trial.function trial.formals_named c.requires.size.named (all_stand c.args.history.now c.args.work.now.bank c.args.f c.args.formals.now c.args.sites.now c.requires.sites) c.loop-site-test.true
    (subst (λ (s : Site). DescendsAt c.args.history.now c.loop-site.work.bank c.args.formals.now c.args.x s → ⊥) c.site-item.is (match_none c.in_ok-find_descent.field-0 _ _ c.in-None.is c.in_ok-find_descent.ensures.found))

pub returns-in-None-clause-grows : goal.returns-in-None-clause-grows
returns-in-None-clause-grows c = grown_trans c.args.history.now c.args.work.now c.loop-site.work c.find_descent.new.work c.loop-site.invariant.grows c.find_descent.ensures.grows

pub returns-in_err-push-in-Some-clause-grows : goal.returns-in_err-push-in-Some-clause-grows
returns-in_err-push-in-Some-clause-grows c = grown_trans c.args.history.now c.args.work.now c.loop-site.work c.find_descent.new.work c.loop-site.invariant.grows c.find_descent.ensures.grows

pub loop-site-preserved : goal.loop-site-preserved
loop-site-preserved c =
    let h = c.args.history.now in
    let mid = c.loop-site.work in
    let new = c.find_descent.new.work in
    let trial = c.requires.trial in
    let up = c.loop-site.invariant.grows.grows.bank in
    let there = c.requires.stands.history in
    let sites = sites_still h c.args.work.now.bank mid.bank c.args.f c.args.formals.now up there trial.function trial.formals_named c.args.sites.now c.requires.sites in
    record {
      grows = grown_trans h c.args.work.now mid new c.loop-site.invariant.grows c.find_descent.ensures.grows;
      falls =
          lines_next h mid new c.args.f c.args.formals.now c.args.measure c.args.sites.now c.loop-site.site-index c.site-item.result c.loop-site.falls.items c.push.new.self.items c.in-Some.line c.loop-site.invariant.grows.grows.stands c.find_descent.ensures.grows.grows
          (trial_still h c.args.work.now.bank mid.bank c.args.f c.args.formals.now up there trial.function trial.formals_named c.args.measure trial)
          (all_stand h mid.bank c.args.f c.args.formals.now c.args.sites.now sites) c.loop-site-test.true c.loop-site.invariant.falls c.in_ok-push-in-Some.ensures.items
          (subst (λ (s : Site). IsFallLine new c.args.f c.args.formals.now c.args.measure s c.in-Some.line) c.site-item.is (match_some c.in_ok-find_descent.field-0 c.in-Some.line _ _ c.in-Some.is c.in_ok-find_descent.ensures.found));
    }
