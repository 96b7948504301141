use Rattle.nq_waterfall.proofs.SameLemmas.{goal_grown}
use Rattle.nq_legal.proofs.GeneralizingLemmas.{elimination_leads, no_elimination}
use Rattle.nq_legal.proofs.MovingLemmas.{when_none, when_some}
use Rattle.nq_legal.proofs.eliminating.eliminate_below.Goals as goal

pub lead_below-requires-clause-goal : goal.lead_below-requires-clause-goal
lead_below-requires-clause-goal c = goal_grown c.args.history.now c.args.work.now c.eliminate_move.new.work c.requires.ready.stands c.eliminate_move.ensures.grows c.args.goal.now c.requires.goal

pub lead_below-requires-clause-leads : goal.lead_below-requires-clause-leads
lead_below-requires-clause-leads c =
    elimination_leads c.args.history.now c.args.hints.now c.args.work.now c.eliminate_move.new.work c.requires.ready c.eliminate_move.ensures.grows c.args.path.now c.requires.path c.args.goal.now c.requires.goal c.args.above.now c.in-Some.moved c.requires.goals c.requires.normal
    (when_some _ _ _ c.in-Some.moved c.in-Some.is c.in_ok-moved.ensures.legal)

pub returns-in-None-clause-legal : goal.returns-in-None-clause-legal
returns-in-None-clause-legal c =
    no_elimination c.args.history.now c.args.hints.now c.args.work.now c.eliminate_move.new.work c.requires.ready c.eliminate_move.ensures.grows c.args.path.now c.requires.path c.args.goal.now c.requires.goal
    (when_none _ _ _ c.in-None.is c.in_ok-moved.ensures.legal)
