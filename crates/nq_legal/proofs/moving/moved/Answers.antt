use Rattle.nq_kernel.proofs.GrowingLemmas.{WorkGrows-trans}
use Rattle.nq_waterfall.proofs.SameLemmas.{goal_grown, path_grown, path_in_grown, ready_grown}
use Rattle.nq_legal.proofs.GeneralizingLemmas.{no_elimination}
use Rattle.nq_legal.proofs.MovingLemmas.{none_then, no_substitution, normal_grown, when_none, when_some}
use Rattle.nq_legal.proofs.moving.moved.Goals as goal

pub changed-requires-clause-ready : goal.changed-requires-clause-ready
changed-requires-clause-ready c = ready_grown c.args.history.now c.args.work.now c.eliminated.new.work c.requires.ready.stands c.eliminated.ensures.grows c.holding.ensures c.args.hints.now c.requires.ready

pub changed-requires-clause-goal : goal.changed-requires-clause-goal
changed-requires-clause-goal c = goal_grown c.args.history.now c.args.work.now c.eliminated.new.work c.requires.ready.stands c.eliminated.ensures.grows c.args.goal.now c.requires.goal

pub changed-requires-clause-path : goal.changed-requires-clause-path
changed-requires-clause-path c = path_grown c.args.work.now.bank c.eliminated.new.work.bank c.eliminated.ensures.grows.bank c.args.path.now c.requires.path

pub changed-requires-clause-path_in : goal.changed-requires-clause-path_in
changed-requires-clause-path_in c = path_in_grown c.args.history.now c.args.work.now c.eliminated.new.work c.requires.ready.stands c.eliminated.ensures.grows c.args.path.now c.requires.path_in

pub changed-requires-clause-normal : goal.changed-requires-clause-normal
changed-requires-clause-normal c = normal_grown c.args.history.now c.args.hints.now c.args.work.now c.eliminated.new.work c.requires.ready c.eliminated.ensures.grows c.args.goal.now c.requires.goal c.requires.normal

pub changed-requires-clause-none : goal.changed-requires-clause-none
changed-requires-clause-none c = no_substitution c.args.history.now c.args.hints.now c.args.work.now c.eliminated.new.work c.requires.ready c.eliminated.ensures.grows c.args.goal.now c.requires.goal c.requires.none

pub returns-in-Some-clause-legal : goal.returns-in-Some-clause-legal
returns-in-Some-clause-legal c = when_some _ _ _ c.in-Some.lead c.in-Some.is c.in_ok-lead.ensures.legal

pub returns-in-None-clause-legal : goal.returns-in-None-clause-legal
returns-in-None-clause-legal c =
    let h = c.args.history.now in
    let hints = c.args.hints.now in
    let old = c.args.work.now in
    let mid = c.eliminated.new.work in
    let new = c.changed.new.work in
    let ready = ready_grown h old mid c.requires.ready.stands c.eliminated.ensures.grows c.holding.ensures hints c.requires.ready in
    let inside = goal_grown h old mid c.requires.ready.stands c.eliminated.ensures.grows c.args.goal.now c.requires.goal in
    let above = path_grown old.bank mid.bank c.eliminated.ensures.grows.bank c.args.path.now c.requires.path in
    none_then h hints new c.args.path.now c.args.goal.now c.changed.result _ _
    (λ none. record {
      no_substituting = none.no_substituting;
      no_eliminating = (no_elimination h hints mid new ready c.changed.ensures.grows c.args.path.now above c.args.goal.now inside (when_none _ _ _ c.in-None.is c.in_ok-lead.ensures.legal)).none;
      no_fertilizing = none.no_fertilizing;
      no_generalizing = none.no_generalizing;
      no_dropping = none.no_dropping;
    }) c.changed.ensures.legal

pub returns-in-None-clause-grows : goal.returns-in-None-clause-grows
returns-in-None-clause-grows c = WorkGrows-trans c.args.history.now c.args.work.now c.eliminated.new.work c.changed.new.work c.eliminated.ensures.grows c.changed.ensures.grows
