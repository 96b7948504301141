use Rattle.std.proofs.Common.{List, [], ℕ, sym, subst}
use Rattle.nq_calls.specs.declared.calls.Site.{Site}
use Rattle.nq_bank.specs.Content.{text_at, term_at}
use Rattle.nq_calls.specs.Calls.{site_at}
use Rattle.nq_calls.specs.Falls.{obligation_at}
use Rattle.nq_bank.specs.Shells.{texts_at}
use Rattle.nq_kernel.proofs.GrowingLemmas.{WorkGrows-refl, WorkGrows-trans, LineHolds-grown}
use Rattle.nq_replay.specs.LawClauses.{choice_opens_clause}
use Rattle.nq_measures.specs.Trials.{AllFallBy, IsFallLine, IsLeft, IsSiteOf}
use Rattle.nq_measures.proofs.GrownLemmas.{trial_still, sites_still, all_stand}
use Rattle.nq_measures.proofs.SearchLemmas.{lines_next}
use Rattle.nq_measures.proofs.LeftLemmas.{err_told, falls_stop, ok_told}
use Rattle.nq_measures.proofs.falls.find_falls.Goals as goal

pub loop-site-init : goal.loop-site-init
loop-site-init g c =
    let w = c.args.work.now in
    record {
      grows = WorkGrows-refl c.args.history.now w c.requires.searching.stands;
      searching = c.requires.searching;
      falls = subst (λ (ns : List ℕ). AllFallBy w (text_at w.bank c.args.f) (texts_at w.bank c.args.formals.now) (term_at w.bank c.args.measure) [] ns) (sym c.new-falls.ensures.items) tt;
    }

pub find_fall-requires-clause-law : goal.find_fall-requires-clause-law
find_fall-requires-clause-law g c = LineHolds-grown c.args.history.now c.args.work.now c.loop-site.work c.args.law choice_opens_clause c.requires.searching.stands c.loop-site.invariant.grows c.requires.law

pub find_fall-requires-clause-trial : goal.find_fall-requires-clause-trial
find_fall-requires-clause-trial g c =
    let trial = c.requires.trial in
    trial_still c.args.history.now c.args.work.now.bank c.loop-site.work.bank c.args.f c.args.formals.now c.loop-site.invariant.grows.bank c.requires.searching.stands.history trial.function trial.formals_named c.args.measure trial

pub find_fall-requires-clause-site : goal.find_fall-requires-clause-site
find_fall-requires-clause-site g c =
    let trial = c.requires.trial in
    subst (λ (s : Site). IsSiteOf c.args.history.now c.loop-site.work.bank c.args.f c.args.formals.now s) (sym c.site-item.is)
    (sites_still c.args.history.now c.args.work.now.bank c.loop-site.work.bank c.args.f c.args.formals.now c.loop-site.invariant.grows.bank c.requires.searching.stands.history trial.function trial.formals_named c.args.sites.now c.requires.sites c.loop-site.site-index c.site-item.result c.loop-site-test.true)

pub returns-in_err-left-clause-grows : goal.returns-in_err-left-clause-grows
returns-in_err-left-clause-grows g c = WorkGrows-trans c.args.history.now c.args.work.now c.loop-site.work c.find_fall.new.work c.loop-site.invariant.grows c.find_fall.ensures.grows

pub returns-in-Err-clause-grows : goal.returns-in-Err-clause-grows
returns-in-Err-clause-grows g c = WorkGrows-trans c.args.history.now c.args.work.now c.loop-site.work c.find_fall.new.work c.loop-site.invariant.grows c.find_fall.ensures.grows

pub returns-in-Err-clause-left : goal.returns-in-Err-clause-left
returns-in-Err-clause-left g c =
    let h = c.args.history.now in
    let mid = c.loop-site.work in
    let new = c.find_fall.new.work in
    falls_stop h c.args.work.now mid new c.args.f c.args.formals.now c.args.measure c.args.sites.now c.requires.searching.stands c.loop-site.invariant.grows c.find_fall.ensures.grows c.requires.trial
    (all_stand h c.args.work.now.bank c.args.f c.args.formals.now c.args.sites.now c.requires.sites) c.loop-site.site-index c.site-item.result c.loop-site.falls.items c.in-Err.left c.loop-site-test.true c.loop-site.invariant.falls
    (subst (λ (s : Site). IsLeft new (term_at mid.bank c.args.measure) (obligation_at (texts_at mid.bank c.args.formals.now) (term_at mid.bank c.args.measure) (site_at mid.bank s)) c.in-Err.left) c.site-item.is
    (err_told _ c.in_ok-left.field-0 c.in-Err.left c.in-Err.is c.in_ok-left.ensures.left))

pub returns-in_err-push-in-Ok-clause-grows : goal.returns-in_err-push-in-Ok-clause-grows
returns-in_err-push-in-Ok-clause-grows g c = WorkGrows-trans c.args.history.now c.args.work.now c.loop-site.work c.find_fall.new.work c.loop-site.invariant.grows c.find_fall.ensures.grows

pub loop-site-preserved : goal.loop-site-preserved
loop-site-preserved g c =
    let h = c.args.history.now in
    let mid = c.loop-site.work in
    let new = c.find_fall.new.work in
    let trial = c.requires.trial in
    let up = c.loop-site.invariant.grows.bank in
    let there = c.requires.searching.stands.history in
    let sites = sites_still h c.args.work.now.bank mid.bank c.args.f c.args.formals.now up there trial.function trial.formals_named c.args.sites.now c.requires.sites in
    record {
      grows = WorkGrows-trans h c.args.work.now mid new c.loop-site.invariant.grows c.find_fall.ensures.grows;
      searching = c.find_fall.ensures.searching;
      falls =
          lines_next h mid new c.args.f c.args.formals.now c.args.measure c.args.sites.now c.loop-site.site-index c.site-item.result c.loop-site.falls.items c.push.new.self.items c.in-Ok.line c.loop-site.invariant.grows.stands c.find_fall.ensures.grows
          (trial_still h c.args.work.now.bank mid.bank c.args.f c.args.formals.now up there trial.function trial.formals_named c.args.measure trial)
          (all_stand h mid.bank c.args.f c.args.formals.now c.args.sites.now sites) c.loop-site-test.true c.loop-site.invariant.falls c.in_ok-push-in-Ok.ensures.items
          (subst (λ (s : Site). IsFallLine new c.args.f c.args.formals.now c.args.measure s c.in-Ok.line) c.site-item.is (ok_told _ c.in_ok-left.field-0 c.in-Ok.line c.in-Ok.is c.in_ok-left.ensures.found));
    }
