use Rattle.std.proofs.Common.{◌∙◌, ◌++◌, ℕ, ap, arith, List}
use Rattle.nq_comment.proofs.StepLines.{step_put}
use Rattle.nq_comment.proofs.goal_lines.step_lines.Goals as goal

pub loop-step-preserved : goal.loop-step-preserved
loop-step-preserved c = (
  step_put c.args.steps.now c.loop-step.step-index c.loop-step.number c.step-item.result _ _ _ (omega (arith, c.loop-step-test)) c.loop-step.invariant.0 c.loop-step.invariant.1
      c.step-item.is c.in_ok-line.ensures (c.in_ok-extend_from_slice.ensures.items ∙ ap (λ (t : List ℕ). c.loop-step.text.items ++ t) c.as_slice.ensures.value),
  omega arith,
)
