use Rattle.std.proofs.Common.{sym, subst}
use Rattle.std.specs.Prelude.{All}
use Rattle.nq_lines.specs.Lines.{IsTermIn}
use Rattle.nq_kernel.proofs.GrowingLemmas.{WorkGrows-trans}
use Rattle.nq_reduce.proofs.RewritingLemmas.{can_grown}
use Rattle.nq_reduce.proofs.DroppingLemmas.{rest_told}
use Rattle.nq_rewrite.proofs.arithmetic.line_by_arithmetic.Goals as goal

pub line_of_goal-requires-clause-can : goal.line_of_goal-requires-clause-can
line_of_goal-requires-clause-can c = can_grown c.args.history.now c.args.work.now c.goal_of.new.work c.goal_of.ensures.grows c.args.assumed.now c.args.first c.requires.can

pub line_of_goal-requires-clause-goal : goal.line_of_goal-requires-clause-goal
line_of_goal-requires-clause-goal c = subst (All (IsTermIn c.args.history.now c.goal_of.new.work)) (sym c.as_slice.ensures.value) c.in_ok-goal.ensures.goal

pub returns-clause-line : goal.returns-clause-line
returns-clause-line c = rest_told c.args.history.now c.args.work.now c.goal_of.new.work c.line_of_goal.new.work c.goal_of.ensures.grows c.args.assumed.now c.args.first c.line_of_goal.result c.requires.can c.line_of_goal.ensures.line

pub returns-clause-grows : goal.returns-clause-grows
returns-clause-grows c = WorkGrows-trans c.args.history.now c.args.work.now c.goal_of.new.work c.line_of_goal.new.work c.goal_of.ensures.grows c.line_of_goal.ensures.grows
