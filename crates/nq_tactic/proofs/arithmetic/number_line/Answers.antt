use Rattle.nq_kernel.proofs.GrowingLemmas.{WorkGrows-trans}
use Rattle.nq_lines.proofs.FactLemmas.{own_terms_grown}
use Rattle.nq_search.proofs.SearchingLemmas.{goal_grown}
use Rattle.nq_tactic.proofs.arithmetic.number_line.Goals as goal

pub linear_line-requires-clause-goal : goal.linear_line-requires-clause-goal
linear_line-requires-clause-goal c = goal_grown c.args.history.now c.args.work.now c.line_of_number.new.work c.requires.stands c.line_of_number.ensures.grows c.args.goal.now c.requires.goal

pub returns-in-None-clause-grows : goal.returns-in-None-clause-grows
returns-in-None-clause-grows c = WorkGrows-trans c.args.history.now c.args.work.now c.line_of_number.new.work c.linear_line.new.work c.line_of_number.ensures.grows c.linear_line.ensures.grows

pub linear_line-requires-clause-ready : goal.linear_line-requires-clause-ready
linear_line-requires-clause-ready c = own_terms_grown c.args.history.now c.args.work.now c.line_of_number.new.work c.line_of_number.ensures.grows c.requires.stands c.requires.ready
