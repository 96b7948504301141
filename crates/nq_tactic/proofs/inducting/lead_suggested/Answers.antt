use Rattle.nq_kernel.proofs.GrowingLemmas.{WorkGrows-refl, WorkGrows-trans}
use Rattle.nq_search.proofs.SearchingLemmas.{goal_grown}
use Rattle.nq_tactic.proofs.inducting.lead_suggested.Goals as goal

pub returns-then-is_empty-clause-grows : goal.returns-then-is_empty-clause-grows
returns-then-is_empty-clause-grows c = WorkGrows-refl c.args.history.now c.args.work.now c.requires.can.stands

pub lead_by-requires-clause-goal : goal.lead_by-requires-clause-goal
lead_by-requires-clause-goal c = goal_grown c.args.history.now c.args.work.now c.scheme_of.new.work c.requires.can.stands c.scheme_of.ensures.grows c.args.goal.now c.requires.goal

pub returns-in_err-led-in-Some-clause-grows : goal.returns-in_err-led-in-Some-clause-grows
returns-in_err-led-in-Some-clause-grows c = WorkGrows-trans c.args.history.now c.args.work.now c.scheme_of.new.work c.lead_by.new.work c.scheme_of.ensures.grows c.lead_by.ensures.grows

pub returns-in_ok-led-in-Some-clause-grows : goal.returns-in_ok-led-in-Some-clause-grows
returns-in_ok-led-in-Some-clause-grows c = WorkGrows-trans c.args.history.now c.args.work.now c.scheme_of.new.work c.lead_by.new.work c.scheme_of.ensures.grows c.lead_by.ensures.grows
