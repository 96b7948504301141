use Rattle.std.proofs.Common.{subst, sym}
use Rattle.nq_bank.proofs.Growth.{IsNamed-grown}
use Rattle.nq_kernel.proofs.GrowingLemmas.{WorkGrows-trans}
use Rattle.nq_search.specs.Goals.{IsGoalIn}
use Rattle.nq_search.proofs.SearchingLemmas.{ready_grown}
use Rattle.nq_tactic.proofs.truth_lines.learn_call.Goals as goal

pub learn_goal-requires-clause-can : goal.learn_goal-requires-clause-can
learn_goal-requires-clause-can c = ready_grown c.args.history.now c.args.work.now c.truth_goal.new.work c.requires.can.stands c.truth_goal.ensures.grows c.ready_histories.ensures.grown c.args.hints.now c.requires.can

pub learn_goal-requires-clause-function : goal.learn_goal-requires-clause-function
learn_goal-requires-clause-function c = IsNamed-grown c.args.work.now.bank c.truth_goal.new.work.bank c.args.f c.truth_goal.ensures.grows.bank c.requires.function

pub learn_goal-requires-clause-goal : goal.learn_goal-requires-clause-goal
learn_goal-requires-clause-goal c = subst (IsGoalIn c.args.history.now c.truth_goal.new.work) (sym c.as_slice.ensures.value) c.in_ok-goal.ensures.goal

pub returns-clause-grows : goal.returns-clause-grows
returns-clause-grows c = WorkGrows-trans c.args.history.now c.args.work.now c.truth_goal.new.work c.learn_goal.new.work c.truth_goal.ensures.grows c.learn_goal.ensures.grows
