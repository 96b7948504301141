use Rattle.nq_kernel.proofs.GrowingLemmas.{WorkGrows-trans}
use Rattle.nq_search.proofs.SearchingLemmas.{ready_grown, goal_grown}
use Rattle.nq_tactic.proofs.eliminating.lead_eliminated.Goals as goal

pub eliminated-requires-clause-goal : goal.eliminated-requires-clause-goal
eliminated-requires-clause-goal c = goal_grown c.args.history.now c.args.work.now c.equate_numbers.new.work c.requires.can.stands c.equate_numbers.ensures.grows c.args.goal.now c.requires.goal

pub lead_parted-requires-clause-can : goal.lead_parted-requires-clause-can
lead_parted-requires-clause-can c = ready_grown c.args.history.now c.args.work.now c.equate_numbers.new.work c.requires.can.stands c.equate_numbers.ensures.grows c.ready_histories.ensures.grown c.args.hints.now c.requires.can

pub lead_parted-requires-clause-goal : goal.lead_parted-requires-clause-goal
lead_parted-requires-clause-goal c = goal_grown c.args.history.now c.args.work.now c.equate_numbers.new.work c.requires.can.stands c.equate_numbers.ensures.grows c.args.goal.now c.requires.goal

pub returns-in-None-clause-grows : goal.returns-in-None-clause-grows
returns-in-None-clause-grows c = WorkGrows-trans c.args.history.now c.args.work.now c.equate_numbers.new.work c.lead_parted.new.work c.equate_numbers.ensures.grows c.lead_parted.ensures.grows
