use Rattle.nq_kernel.proofs.GrowingLemmas.{WorkGrows-trans}
use Rattle.nq_search.proofs.SearchingLemmas.{ready_grown, goal_grown}
use Rattle.nq_tactic.proofs.eliminating.lead_parted.Goals as goal

pub eliminated-requires-clause-goal : goal.eliminated-requires-clause-goal
eliminated-requires-clause-goal c = goal_grown c.args.history.now c.args.work.now c.eliminate.new.work c.requires.can.stands c.eliminate.ensures.grows c.args.goal.now c.requires.goal

pub lead_differing-requires-clause-can : goal.lead_differing-requires-clause-can
lead_differing-requires-clause-can c = ready_grown c.args.history.now c.args.work.now c.eliminate.new.work c.requires.can.stands c.eliminate.ensures.grows c.ready_histories.ensures.grown c.args.hints.now c.requires.can

pub lead_differing-requires-clause-goal : goal.lead_differing-requires-clause-goal
lead_differing-requires-clause-goal c = goal_grown c.args.history.now c.args.work.now c.eliminate.new.work c.requires.can.stands c.eliminate.ensures.grows c.args.goal.now c.requires.goal

pub returns-in-None-clause-grows : goal.returns-in-None-clause-grows
returns-in-None-clause-grows c = WorkGrows-trans c.args.history.now c.args.work.now c.eliminate.new.work c.lead_differing.new.work c.eliminate.ensures.grows c.lead_differing.ensures.grows
