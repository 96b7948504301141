use Rattle.nq_search.proofs.SearchingLemmas.{goal_grown}
use Rattle.nq_tactic.proofs.eliminating.lead_differing.Goals as goal

pub eliminated-requires-clause-goal : goal.eliminated-requires-clause-goal
eliminated-requires-clause-goal c = goal_grown c.args.history.now c.args.work.now c.eliminate_difference.new.work c.requires.can.stands c.eliminate_difference.ensures.grows c.args.goal.now c.requires.goal
