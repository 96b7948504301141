use Rattle.nq_kernel.proofs.GrowingLemmas.{WorkGrows-trans}
use Rattle.nq_lines.proofs.FactLemmas.{own_terms_grown}
use Rattle.nq_search.proofs.SearchingLemmas.{goal_grown}
use Rattle.nq_tactic.proofs.leading.lead_by_arithmetic.Goals as goal

pub refuted_by-requires-clause-goal : goal.refuted_by-requires-clause-goal
refuted_by-requires-clause-goal c = goal_grown c.args.history.now c.args.work.now c.number_line.new.work c.requires.stands c.number_line.ensures.grows c.args.goal.now c.requires.goal

pub lead_by_rules-requires-clause-goal : goal.lead_by_rules-requires-clause-goal
lead_by_rules-requires-clause-goal c = goal_grown c.args.history.now c.args.work.now c.number_line.new.work c.requires.stands c.number_line.ensures.grows c.args.goal.now c.requires.goal

pub lead_by_rules-requires-clause-ready : goal.lead_by_rules-requires-clause-ready
lead_by_rules-requires-clause-ready c = own_terms_grown c.args.history.now c.args.work.now c.number_line.new.work c.number_line.ensures.grows c.requires.stands c.requires.ready

pub returns-in-None-clause-grows : goal.returns-in-None-clause-grows
returns-in-None-clause-grows c = WorkGrows-trans c.args.history.now c.args.work.now c.number_line.new.work c.lead_by_rules.new.work c.number_line.ensures.grows c.lead_by_rules.ensures.grows
