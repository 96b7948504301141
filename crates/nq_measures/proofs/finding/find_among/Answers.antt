use Rattle.std.proofs.Common.{List, [], get_or, take, sym, subst, arith}
use Rattle.std.proofs.lemmas.List.{take_all}
use Rattle.nq_bank.specs.Content.{text_at, terms_at}
use Rattle.nq_bank.specs.Shells.{texts_at}
use Rattle.nq_calls.specs.Calls.{sites_at}
use Rattle.nq_measures.specs.declared.left.Left.{Left}
use Rattle.nq_bank.specs.declared.node.TermId.{TermId}
use Rattle.nq_measures.specs.Trials.{AreLeftAt, IsNotStructural}
use Rattle.nq_kernel.proofs.GrowingLemmas.{WorkGrows-refl, WorkGrows-trans, LineHolds-grown}
use Rattle.nq_replay.specs.LawClauses.{choice_opens_clause}
use Rattle.nq_measures.proofs.GrownLemmas.{all_stand, trial_still, sites_still}
use Rattle.nq_measures.proofs.LeftLemmas.{are_left_grown, err_told, left_before, left_next, ok_told}
use Rattle.nq_measures.proofs.SearchLemmas.{got}
use Rattle.nq_measures.proofs.FoundLemmas.{none_next, none_left, structural_before}
use Rattle.nq_measures.proofs.finding.find_among.Goals as goal

pub loop-place-init : goal.loop-place-init
loop-place-init g c =
    let w = c.args.work.now in
    record {
      grows = WorkGrows-refl c.args.history.now w c.requires.searching.stands;
      searching = c.requires.searching;
      none = λ k d below. absurd (omega arith);
      left = subst (λ (ls : List Left). AreLeftAt w.bank w c.args.f c.args.formals.now c.args.sites.now [] ls) (sym c.new-left.ensures.items) tt;
    }

pub try_measure-requires-clause-law : goal.try_measure-requires-clause-law
try_measure-requires-clause-law g c = LineHolds-grown c.args.history.now c.args.work.now c.loop-place.work c.args.law choice_opens_clause c.requires.searching.stands c.loop-place.invariant.grows c.requires.law

pub try_measure-requires-clause-trial : goal.try_measure-requires-clause-trial
try_measure-requires-clause-trial g c =
    let none : TermId = record { 0 = 0 } in
    let trial = c.requires.trials c.loop-place.place none c.loop-place-test.true in
    trial_still c.args.history.now c.args.work.now.bank c.loop-place.work.bank c.args.f c.args.formals.now c.loop-place.invariant.grows.bank c.requires.searching.stands.history trial.function trial.formals_named (get_or c.args.tried.now c.loop-place.place none) trial

pub try_measure-requires-clause-sites : goal.try_measure-requires-clause-sites
try_measure-requires-clause-sites g c =
    let none : TermId = record { 0 = 0 } in
    let trial = c.requires.trials c.loop-place.place none c.loop-place-test.true in
    sites_still c.args.history.now c.args.work.now.bank c.loop-place.work.bank c.args.f c.args.formals.now c.loop-place.invariant.grows.bank c.requires.searching.stands.history trial.function trial.formals_named c.args.sites.now c.requires.sites

pub returns-in_err-evidence-clause-grows : goal.returns-in_err-evidence-clause-grows
returns-in_err-evidence-clause-grows g c = WorkGrows-trans c.args.history.now c.args.work.now c.loop-place.work c.try_measure.new.work c.loop-place.invariant.grows c.try_measure.ensures.grows

pub returns-in-Ok-clause-found : goal.returns-in-Ok-clause-found
returns-in-Ok-clause-found g c =
    let none : TermId = record { 0 = 0 } in
    record { told = got c.args.tried.now c.loop-place.place none c.loop-place-test.true; evidence = ok_told _ c.in_ok-evidence.field-0 c.in-Ok.evidence c.in-Ok.is c.in_ok-evidence.ensures.found }

pub returns-in-Ok-clause-grows : goal.returns-in-Ok-clause-grows
returns-in-Ok-clause-grows g c = WorkGrows-trans c.args.history.now c.args.work.now c.loop-place.work c.try_measure.new.work c.loop-place.invariant.grows c.try_measure.ensures.grows

pub loop-place-preserved : goal.loop-place-preserved
loop-place-preserved g c =
    let none : TermId = record { 0 = 0 } in
    let trial = c.requires.trials c.loop-place.place none c.loop-place-test.true in
    let old = c.args.work.now.bank in
    let mid = c.loop-place.work.bank in
    let new = c.try_measure.new.work in
    let here = err_told _ c.in_ok-evidence.field-0 c.in-Err.first c.in-Err.is c.in_ok-evidence.ensures.plain in
    record {
      grows = WorkGrows-trans c.args.history.now c.args.work.now c.loop-place.work c.try_measure.new.work c.loop-place.invariant.grows c.try_measure.ensures.grows;
      searching = c.try_measure.ensures.searching;
      none =
          none_next (λ m. IsNotStructural c.args.history.now old c.args.formals.now m c.args.sites.now) c.args.tried.now c.loop-place.place none c.loop-place-test.true c.loop-place.invariant.none
          (structural_before c.args.history.now old mid c.args.f c.args.formals.now (get_or c.args.tried.now c.loop-place.place none) c.args.sites.now c.loop-place.invariant.grows.bank c.requires.searching.stands.history trial c.requires.sites here);
      left =
          left_next new old (text_at old c.args.f) (texts_at old c.args.formals.now) (sites_at old c.args.sites.now) c.args.tried.now c.loop-place.place none c.loop-place.left.items c.push.new.self.items c.in-Err.first c.loop-place-test.true
          (are_left_grown c.args.history.now c.loop-place.work new (text_at old c.args.f) (texts_at old c.args.formals.now) (sites_at old c.args.sites.now) (terms_at old (take c.loop-place.place c.args.tried.now)) c.loop-place.left.items c.loop-place.invariant.grows.stands c.try_measure.ensures.grows c.loop-place.invariant.left)
          (left_before c.args.history.now c.args.work.now c.loop-place.work new c.args.f c.args.formals.now (get_or c.args.tried.now c.loop-place.place none) c.args.sites.now c.requires.searching.stands c.loop-place.invariant.grows c.try_measure.ensures.grows trial
          (all_stand c.args.history.now old c.args.f c.args.formals.now c.args.sites.now c.requires.sites) c.in-Err.first (err_told _ c.in_ok-evidence.field-0 c.in-Err.first c.in-Err.is c.in_ok-evidence.ensures.left))
          c.in_ok-push-in-Err.ensures.items;
    }

pub returns-clause-found : goal.returns-clause-found
returns-clause-found g c =
    let over = c.loop-place-test.false in
    none_left (λ m. IsNotStructural c.args.history.now c.args.work.now.bank c.args.formals.now m c.args.sites.now) c.args.tried.now c.loop-place.place (omega (arith, over)) c.loop-place.invariant.none

pub returns-clause-left : goal.returns-clause-left
returns-clause-left g c =
    let over = c.loop-place-test.false in
    subst (λ (ts : List TermId). AreLeftAt c.args.work.now.bank c.loop-place.work c.args.f c.args.formals.now c.args.sites.now ts c.loop-place.left.items) (take_all c.loop-place.place c.args.tried.now (omega (arith, over))) c.loop-place.invariant.left

pub returns-in_err-push-in-Err-clause-grows : goal.returns-in_err-push-in-Err-clause-grows
returns-in_err-push-in-Err-clause-grows g c = WorkGrows-trans c.args.history.now c.args.work.now c.loop-place.work c.try_measure.new.work c.loop-place.invariant.grows c.try_measure.ensures.grows
