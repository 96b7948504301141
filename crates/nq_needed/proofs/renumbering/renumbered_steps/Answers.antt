use Rattle.std.proofs.Common.{List, subst, sym, arith, take, ◌+◌}
use Rattle.std.proofs.lemmas.List.{take_all}
use Rattle.nq_rule.specs.declared.induction.InductionStep.{InductionStep}
use Rattle.nq_needed.specs.Renumbering.{number_in, AreRenumberedSteps}
use Rattle.nq_needed.proofs.RenumberingLemmas.{steps_more}
use Rattle.nq_needed.proofs.renumbering.renumbered_steps.Goals as goal

pub loop-step-preserved : goal.loop-step-preserved
loop-step-preserved c =
    let f = number_in c.args.numbers.now in
    subst (λ (made : List InductionStep). AreRenumberedSteps f (take (c.loop-step.step-index + 1) c.args.steps.now) made) (sym c.in_ok-push.ensures.items)
    (steps_more f c.args.steps.now c.loop-step.made.items c.loop-step.step-index c.step-item.result c.in_ok-one.one c.loop-step-test.true c.step-item.is c.loop-step.invariant c.in_ok-one.ensures)

pub returns : goal.returns
returns c =
    subst (λ (steps : List InductionStep). AreRenumberedSteps (number_in c.args.numbers.now) steps c.loop-step.made.items) (take_all c.loop-step.step-index c.args.steps.now (omega arith)) c.loop-step.invariant
