use Rattle.nq_kernel.proofs.GrowingLemmas.{WorkGrows-trans}
use Rattle.nq_waterfall.proofs.SameLemmas.{goal_grown, path_grown, path_in_grown, ready_grown}
use Rattle.nq_legal.proofs.MovingLemmas.{normal_grown, when_none, when_some}
use Rattle.nq_legal.proofs.moving.move_on.Goals as goal

pub moved-requires-clause-ready : goal.moved-requires-clause-ready
moved-requires-clause-ready c = ready_grown c.args.history.now c.args.work.now c.substituted.new.work c.requires.ready.stands c.substituted.ensures.grows c.holding.ensures c.args.hints.now c.requires.ready

pub moved-requires-clause-goal : goal.moved-requires-clause-goal
moved-requires-clause-goal c = goal_grown c.args.history.now c.args.work.now c.substituted.new.work c.requires.ready.stands c.substituted.ensures.grows c.args.goal.now c.requires.goal

pub moved-requires-clause-normal : goal.moved-requires-clause-normal
moved-requires-clause-normal c = normal_grown c.args.history.now c.args.hints.now c.args.work.now c.substituted.new.work c.requires.ready c.substituted.ensures.grows c.args.goal.now c.requires.goal c.requires.normal

pub moved-requires-clause-path : goal.moved-requires-clause-path
moved-requires-clause-path c = path_grown c.args.work.now.bank c.substituted.new.work.bank c.substituted.ensures.grows.bank c.args.path.now c.requires.path

pub moved-requires-clause-path_in : goal.moved-requires-clause-path_in
moved-requires-clause-path_in c = path_in_grown c.args.history.now c.args.work.now c.substituted.new.work c.requires.ready.stands c.substituted.ensures.grows c.args.path.now c.requires.path_in

pub moved-requires-clause-none : goal.moved-requires-clause-none
moved-requires-clause-none c = when_none _ _ _ c.in-None.is c.in_ok-lead.ensures.legal

pub returns-in-Some-clause-legal : goal.returns-in-Some-clause-legal
returns-in-Some-clause-legal c = when_some _ _ _ c.in-Some.lead c.in-Some.is c.in_ok-lead.ensures.legal c.args.path.now

pub returns-in-None-clause-grows : goal.returns-in-None-clause-grows
returns-in-None-clause-grows c = WorkGrows-trans c.args.history.now c.args.work.now c.substituted.new.work c.moved.new.work c.substituted.ensures.grows c.moved.ensures.grows
