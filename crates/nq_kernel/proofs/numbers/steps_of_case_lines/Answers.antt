use Rattle.std.proofs.Common.{◌≡◌, ◌+◌, ◌-◌, ◌^◌, min, take, sym, ap, ◌∙◌, arith}
use Rattle.nq_kernel.specs.Steps.{steps_of_hypotheses, steps_of_cases}
use Rattle.nq_kernel.proofs.StepLemmas.{cases_more}
use Rattle.nq_kernel.proofs.numbers.steps_of_case_lines.Goals as goal

pub loop-c-preserved : goal.loop-c-preserved
loop-c-preserved c =
    let more = cases_more c.args.cases.now c.loop-c.c-index c.c-item.result c.loop-c-test.true (sym c.c-item.is) in
    let here : c.steps_of_hypothesis_lines.result ≡ min (steps_of_hypotheses c.c-item.result.steps.items) (2 ^ 128 - 1) = c.steps_of_hypothesis_lines.ensures ∙ ap (λ xs. min (steps_of_hypotheses xs) (2 ^ 128 - 1)) c.as_slice.ensures.value in
    let sum : c.saturating_add-sum.result ≡ min (steps_of_cases (take (c.loop-c.c-index + 1) c.args.cases.now)) (2 ^ 128 - 1) = omega (arith, more, here, c.loop-c.invariant, c.saturating_add.ensures, c.saturating_add-sum.ensures) in
    sum
