use Rattle.nq_waterfall.proofs.SameLemmas.{goal_grown}
use Rattle.nq_legal.proofs.MovingLemmas.{dropping_leads, no_dropping, when_none, when_some}
use Rattle.nq_legal.proofs.moving.dropped.Goals as goal

pub lead_by-requires-clause-goal : goal.lead_by-requires-clause-goal
lead_by-requires-clause-goal c = goal_grown c.args.history.now c.args.work.now c.irrelevant_move.new.work c.requires.ready.stands c.irrelevant_move.ensures.grows c.args.goal.now c.requires.goal

pub lead_by-requires-clause-leads : goal.lead_by-requires-clause-leads
lead_by-requires-clause-leads c =
    dropping_leads c.args.history.now c.args.hints.now c.args.work.now c.irrelevant_move.new.work c.requires.ready c.irrelevant_move.ensures.grows c.args.goal.now c.requires.goal c.requires.normal c.in-Some.moved
    (when_some _ _ _ c.in-Some.moved c.in-Some.is c.in_ok-moved.ensures.legal)

pub returns-in-None-clause-legal : goal.returns-in-None-clause-legal
returns-in-None-clause-legal c =
    no_dropping c.args.history.now c.args.hints.now c.args.work.now c.irrelevant_move.new.work c.requires.ready c.irrelevant_move.ensures.grows c.args.goal.now c.requires.goal
    (when_none _ _ _ c.in-None.is c.in_ok-moved.ensures.legal)
