use Rattle.std.proofs.Common.{◌≡◌, ◌+◌, ◌-◌, ◌*◌, ◌^◌, min, take, length, sym, ap, ◌∙◌, arith}
use Rattle.nq_kernel.specs.Steps.{steps_of_hypotheses}
use Rattle.nq_kernel.proofs.StepLemmas.{hypotheses_more}
use Rattle.nq_kernel.proofs.numbers.steps_of_hypothesis_lines.Goals as goal

pub loop-s-preserved : goal.loop-s-preserved
loop-s-preserved c =
    let more = hypotheses_more c.args.steps.now c.loop-s.s-index c.s-item.result c.loop-s-test.true (sym c.s-item.is) in
    let here : c.steps_of_pairs.result ≡ min (2 + 2 * length c.s-item.result.pairs.items) (2 ^ 128 - 1) = c.steps_of_pairs.ensures ∙ ap (λ ps. min (2 + 2 * length ps) (2 ^ 128 - 1)) c.as_slice.ensures.value in
    let sum : c.saturating_add-sum.result ≡ min (steps_of_hypotheses (take (c.loop-s.s-index + 1) c.args.steps.now)) (2 ^ 128 - 1) = omega (arith, more, here, c.loop-s.invariant, c.saturating_add-sum.ensures) in
    sum
