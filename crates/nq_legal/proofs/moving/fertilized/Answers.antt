use Rattle.nq_waterfall.proofs.SameLemmas.{goal_grown}
use Rattle.nq_legal.proofs.MovingLemmas.{fertilization_leads, no_fertilization, when_none, when_some}
use Rattle.nq_legal.proofs.moving.fertilized.Goals as goal

pub lead_by-requires-clause-goal : goal.lead_by-requires-clause-goal
lead_by-requires-clause-goal c = goal_grown c.args.history.now c.args.work.now c.fertilize_move.new.work c.requires.ready.stands c.fertilize_move.ensures.grows c.args.goal.now c.requires.goal

pub lead_by-requires-clause-leads : goal.lead_by-requires-clause-leads
lead_by-requires-clause-leads c =
    fertilization_leads c.args.history.now c.args.hints.now c.args.work.now c.fertilize_move.new.work c.requires.ready c.fertilize_move.ensures.grows c.args.goal.now c.requires.goal c.requires.normal c.in-Some.moved
    (when_some _ _ _ c.in-Some.moved c.in-Some.is c.in_ok-moved.ensures.legal)

pub returns-in-None-clause-legal : goal.returns-in-None-clause-legal
returns-in-None-clause-legal c =
    no_fertilization c.args.history.now c.args.hints.now c.args.work.now c.fertilize_move.new.work c.requires.ready c.fertilize_move.ensures.grows c.args.goal.now c.requires.goal
    (when_none _ _ _ c.in-None.is c.in_ok-moved.ensures.legal)
