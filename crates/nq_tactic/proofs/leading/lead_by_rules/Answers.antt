use Rattle.nq_kernel.proofs.GrowingLemmas.{WorkGrows-refl}
use Rattle.nq_search.proofs.SearchingLemmas.{goal_grown}
use Rattle.nq_tactic.proofs.leading.lead_by_rules.Goals as goal

pub refuted_by-requires-clause-goal : goal.refuted_by-requires-clause-goal
refuted_by-requires-clause-goal c = goal_grown c.args.history.now c.args.work.now c.tested_line.new.work c.requires.stands c.tested_line.ensures.grows c.args.goal.now c.requires.goal

pub returns-then-not-plan-clause-grows : goal.returns-then-not-plan-clause-grows
returns-then-not-plan-clause-grows c = WorkGrows-refl c.args.history.now c.args.work.now c.requires.stands
