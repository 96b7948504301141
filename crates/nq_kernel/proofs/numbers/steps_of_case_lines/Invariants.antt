-- The sum so far, and what is left.
use Rattle.std.proofs.Common.{◌≡◌, ◌-◌, ◌^◌, min, take}
use Rattle.nq_kernel.specs.Steps.{steps_of_cases}
use Rattle.nq_kernel.proofs.numbers.steps_of_case_lines.Given as goal

abbrev pub invariant-loop-c : goal.invariant-loop-c
invariant-loop-c l = l.sum ≡ min (steps_of_cases (take l.c-index l.cases)) (2 ^ 128 - 1)
