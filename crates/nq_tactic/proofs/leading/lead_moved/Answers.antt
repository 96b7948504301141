use Rattle.nq_search.proofs.SearchingLemmas.{goal_grown}
use Rattle.nq_tactic.proofs.leading.lead_moved.Goals as goal

pub lead_unless_false-requires-clause-goal : goal.lead_unless_false-requires-clause-goal
lead_unless_false-requires-clause-goal c = goal_grown c.args.history.now c.args.work.now c.move_of.new.work c.requires.can.stands c.move_of.ensures.grows c.args.goal.now c.requires.goal
