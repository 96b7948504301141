use Rattle.std.proofs.Common.{◌≡◌, []}
use Rattle.nq_bank.specs.Content.{terms_at}
use Rattle.nq_history.specs.Events.{events_at}
use Rattle.nq_event.specs.EventsAt.{hints_at}
use Rattle.nq_goals.specs.Dropping.{droppings_of}
use Rattle.nq_legal.specs.Candidates.{HasNoneLess}
use Rattle.nq_kernel.proofs.GrowingLemmas.{WorkGrows-trans}
use Rattle.nq_waterfall.proofs.SameLemmas.{goal_grown, path_grown, ready_grown}
use Rattle.nq_legal.proofs.GeneralizingLemmas.{no_generalization}
use Rattle.nq_legal.proofs.MovingLemmas.{legal_below, none_then, normal_grown, when_none, when_some}
use Rattle.nq_legal.proofs.moving.lessened.Goals as goal

pub dropped-requires-clause-ready : goal.dropped-requires-clause-ready
dropped-requires-clause-ready c = ready_grown c.args.history.now c.args.work.now c.generalized.new.work c.requires.ready.stands c.generalized.ensures.grows c.holding.ensures c.args.hints.now c.requires.ready

pub dropped-requires-clause-goal : goal.dropped-requires-clause-goal
dropped-requires-clause-goal c = goal_grown c.args.history.now c.args.work.now c.generalized.new.work c.requires.ready.stands c.generalized.ensures.grows c.args.goal.now c.requires.goal

pub dropped-requires-clause-normal : goal.dropped-requires-clause-normal
dropped-requires-clause-normal c = normal_grown c.args.history.now c.args.hints.now c.args.work.now c.generalized.new.work c.requires.ready c.generalized.ensures.grows c.args.goal.now c.requires.goal c.requires.normal

pub returns-in-Some-clause-legal : goal.returns-in-Some-clause-legal
returns-in-Some-clause-legal c = when_some _ _ _ c.in-Some.lead c.in-Some.is c.in_ok-lead.ensures.legal

pub returns-in-None-clause-legal : goal.returns-in-None-clause-legal
returns-in-None-clause-legal c =
    let h = c.args.history.now in
    let hints = c.args.hints.now in
    let old = c.args.work.now in
    let mid = c.generalized.new.work in
    let new = c.dropped.new.work in
    let ready = ready_grown h old mid c.requires.ready.stands c.generalized.ensures.grows c.holding.ensures hints c.requires.ready in
    let inside = goal_grown h old mid c.requires.ready.stands c.generalized.ensures.grows c.args.goal.now c.requires.goal in
    let above = path_grown old.bank mid.bank c.generalized.ensures.grows.bank c.args.path.now c.requires.path in
    none_then h hints new c.args.path.now c.args.goal.now c.dropped.result (droppings_of (events_at new.bank h) (terms_at new.bank c.args.goal.now) ≡ []) (HasNoneLess (events_at new.bank h) (hints_at new.bank hints) (terms_at new.bank c.args.goal.now))
    (λ none. record {
      no_generalizing = no_generalization h hints mid new ready c.dropped.ensures.grows c.args.path.now above c.args.goal.now inside (when_none _ _ _ c.in-None.is c.in_ok-lead.ensures.legal);
      no_dropping = none;
    }) (legal_below h hints new c.args.path.now c.args.goal.now c.dropped.result _ c.dropped.ensures.legal)

pub returns-in-None-clause-grows : goal.returns-in-None-clause-grows
returns-in-None-clause-grows c = WorkGrows-trans c.args.history.now c.args.work.now c.generalized.new.work c.dropped.new.work c.generalized.ensures.grows c.dropped.ensures.grows
