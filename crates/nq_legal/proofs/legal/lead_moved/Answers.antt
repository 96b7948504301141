use Rattle.nq_kernel.proofs.GrowingLemmas.{WorkGrows-trans}
use Rattle.nq_waterfall.proofs.SameLemmas.{goal_grown, path_grown, ready_grown}
use Rattle.nq_legal.proofs.InductingLemmas.{form_grown}
use Rattle.nq_legal.proofs.MovingLemmas.{when_none, when_some}
use Rattle.nq_legal.proofs.legal.lead_moved.Goals as goal

pub move_on-requires-clause-normal : goal.move_on-requires-clause-normal
move_on-requires-clause-normal g c = c.requires.form.0

pub lead_stuck-requires-clause-ready : goal.lead_stuck-requires-clause-ready
lead_stuck-requires-clause-ready g c = ready_grown c.args.history.now c.args.work.now c.move_on.new.work c.requires.ready.stands c.move_on.ensures.grows c.holding.ensures c.args.hints.now c.requires.ready

pub lead_stuck-requires-clause-goal : goal.lead_stuck-requires-clause-goal
lead_stuck-requires-clause-goal g c = goal_grown c.args.history.now c.args.work.now c.move_on.new.work c.requires.ready.stands c.move_on.ensures.grows c.args.goal.now c.requires.goal

pub lead_stuck-requires-clause-path : goal.lead_stuck-requires-clause-path
lead_stuck-requires-clause-path g c = path_grown c.args.work.now.bank c.move_on.new.work.bank c.move_on.ensures.grows.bank c.args.path.now c.requires.path

pub returns-in-None-clause-grows : goal.returns-in-None-clause-grows
returns-in-None-clause-grows g c = WorkGrows-trans c.args.history.now c.args.work.now c.move_on.new.work c.lead_stuck.new.work c.move_on.ensures.grows c.lead_stuck.ensures.grows

pub lead_stuck-requires-clause-stuck : goal.lead_stuck-requires-clause-stuck
lead_stuck-requires-clause-stuck g c =
    let form = form_grown c.args.history.now c.args.hints.now c.args.work.now c.move_on.new.work c.args.path.now c.args.goal.now c.requires.ready c.move_on.ensures.grows c.requires.path c.requires.goal c.requires.form in
    record { normal = form.0; not_false = form.1; none = when_none _ _ _ c.in-None.is c.in_ok-lead.ensures.legal }

pub returns-in-Some-clause-turn : goal.returns-in-Some-clause-turn
returns-in-Some-clause-turn g c = when_some _ _ _ c.in-Some.lead c.in-Some.is c.in_ok-lead.ensures.legal
