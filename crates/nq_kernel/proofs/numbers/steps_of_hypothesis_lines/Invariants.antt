-- The sum so far, and what is left.
use Rattle.std.proofs.Common.{◌≡◌, ◌-◌, ◌^◌, min, take}
use Rattle.nq_kernel.specs.Steps.{steps_of_hypotheses}
use Rattle.nq_kernel.proofs.numbers.steps_of_hypothesis_lines.Given as goal

abbrev pub invariant-loop-s : goal.invariant-loop-s
invariant-loop-s l = l.sum ≡ min (steps_of_hypotheses (take l.s-index l.steps)) (2 ^ 128 - 1)
