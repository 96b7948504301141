use Rattle.nq_bank.specs.Content.{terms_at}
use Rattle.nq_history.specs.Events.{events_at}
use Rattle.nq_event.specs.EventsAt.{hints_at}
use Rattle.nq_legal.specs.Candidates.{HasNoneLess, HasNoneOfFour}
use Rattle.nq_kernel.proofs.GrowingLemmas.{WorkGrows-trans}
use Rattle.nq_waterfall.proofs.SameLemmas.{goal_grown, path_grown, path_in_grown, ready_grown}
use Rattle.nq_legal.proofs.MovingLemmas.{none_then, no_fertilization, no_substitution, normal_grown, when_none, when_some}
use Rattle.nq_legal.proofs.moving.changed.Goals as goal

pub lessened-requires-clause-ready : goal.lessened-requires-clause-ready
lessened-requires-clause-ready c = ready_grown c.args.history.now c.args.work.now c.fertilized.new.work c.requires.ready.stands c.fertilized.ensures.grows c.holding.ensures c.args.hints.now c.requires.ready

pub lessened-requires-clause-goal : goal.lessened-requires-clause-goal
lessened-requires-clause-goal c = goal_grown c.args.history.now c.args.work.now c.fertilized.new.work c.requires.ready.stands c.fertilized.ensures.grows c.args.goal.now c.requires.goal

pub lessened-requires-clause-path : goal.lessened-requires-clause-path
lessened-requires-clause-path c = path_grown c.args.work.now.bank c.fertilized.new.work.bank c.fertilized.ensures.grows.bank c.args.path.now c.requires.path

pub lessened-requires-clause-path_in : goal.lessened-requires-clause-path_in
lessened-requires-clause-path_in c = path_in_grown c.args.history.now c.args.work.now c.fertilized.new.work c.requires.ready.stands c.fertilized.ensures.grows c.args.path.now c.requires.path_in

pub lessened-requires-clause-normal : goal.lessened-requires-clause-normal
lessened-requires-clause-normal c = normal_grown c.args.history.now c.args.hints.now c.args.work.now c.fertilized.new.work c.requires.ready c.fertilized.ensures.grows c.args.goal.now c.requires.goal c.requires.normal

pub returns-in-Some-clause-legal : goal.returns-in-Some-clause-legal
returns-in-Some-clause-legal c = when_some _ _ _ c.in-Some.lead c.in-Some.is c.in_ok-lead.ensures.legal c.args.path.now

pub returns-in-None-clause-legal : goal.returns-in-None-clause-legal
returns-in-None-clause-legal c =
    let h = c.args.history.now in
    let hints = c.args.hints.now in
    let old = c.args.work.now in
    let mid = c.fertilized.new.work in
    let new = c.lessened.new.work in
    let ready = ready_grown h old mid c.requires.ready.stands c.fertilized.ensures.grows c.holding.ensures hints c.requires.ready in
    let inside = goal_grown h old mid c.requires.ready.stands c.fertilized.ensures.grows c.args.goal.now c.requires.goal in
    let unsubstituted = no_substitution h hints old mid c.requires.ready c.fertilized.ensures.grows c.args.goal.now c.requires.goal c.requires.none in
    let events = events_at new.bank h in
    let asked = hints_at new.bank hints in
    let here = terms_at new.bank c.args.goal.now in
    none_then h hints new c.args.path.now c.args.goal.now c.lessened.result (HasNoneLess events asked here) (HasNoneOfFour events asked here)
    (λ none. record {
      no_substituting = no_substitution h hints mid new ready c.lessened.ensures.grows c.args.goal.now inside unsubstituted;
      no_fertilizing = no_fertilization h hints mid new ready c.lessened.ensures.grows c.args.goal.now inside (when_none _ _ _ c.in-None.is c.in_ok-lead.ensures.legal);
      no_generalizing = none.no_generalizing;
      no_dropping = none.no_dropping;
    }) c.lessened.ensures.legal

pub returns-in-None-clause-grows : goal.returns-in-None-clause-grows
returns-in-None-clause-grows c = WorkGrows-trans c.args.history.now c.args.work.now c.fertilized.new.work c.lessened.new.work c.fertilized.ensures.grows c.lessened.ensures.grows
