use Rattle.std.proofs.Common.{sym, subst}
use Rattle.std.specs.Prelude.{Vec}
use Rattle.std.specs.declared.alloc.Global.{Global}
use Rattle.nq_bank.specs.declared.node.TermId.{TermId}
use Rattle.nq_bank.proofs.Growth.{IsNamed-grown}
use Rattle.nq_kernel.proofs.GrowingLemmas.{WorkGrows-refl, WorkGrows-trans}
use Rattle.nq_search.specs.Goals.{IsGoalIn}
use Rattle.nq_search.proofs.SearchingLemmas.{goals_grown}
use Rattle.nq_tactic.proofs.falls.learn_goals.Goals as goal

pub learn_line-requires-clause-function : goal.learn_line-requires-clause-function
learn_line-requires-clause-function c = IsNamed-grown c.args.work.now.bank c.loop-goal.work.bank c.args.f c.loop-goal.invariant.grows.bank c.requires.function

pub learn_line-requires-clause-goal : goal.learn_line-requires-clause-goal
learn_line-requires-clause-goal c =
    subst (IsGoalIn c.args.history.now c.loop-goal.work) (sym c.as_slice.ensures.value) (
    subst (λ (g : Vec TermId Global). IsGoalIn c.args.history.now c.loop-goal.work g.items) (sym c.goal-item.is) (
    goals_grown c.args.history.now c.args.work.now c.loop-goal.work c.requires.can.stands c.loop-goal.invariant.grows c.args.goals.now c.requires.goals c.loop-goal.goal-index
    c.goal-item.result c.loop-goal-test.true))

pub loop-goal-init : goal.loop-goal-init
loop-goal-init c = record { grows = WorkGrows-refl c.args.history.now c.args.work.now c.requires.can.stands; can = c.requires.can }

pub loop-goal-preserved : goal.loop-goal-preserved
loop-goal-preserved c = record {
  grows = WorkGrows-trans c.args.history.now c.args.work.now c.loop-goal.work c.learn_line.new.work c.loop-goal.invariant.grows c.learn_line.ensures.grows;
  can = c.in_ok-learn_line.ensures.can;
}

pub returns-in_err-learn_line-clause-grows : goal.returns-in_err-learn_line-clause-grows
returns-in_err-learn_line-clause-grows c =
    WorkGrows-trans c.args.history.now c.args.work.now c.loop-goal.work c.learn_line.new.work c.loop-goal.invariant.grows c.learn_line.ensures.grows
