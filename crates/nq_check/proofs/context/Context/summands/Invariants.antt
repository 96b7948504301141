-- The summands so far, and then those of the multiples that are left.
use Rattle.std.proofs.Common.{◌≡◌, drop, map}
use Rattle.nq_linear_rule.specs.Sums.{summands_at, LiteralsStand}
use Rattle.nq_log.specs.RuleLines.{summands_at as summands_of_block}
use Rattle.nq_check.specs.Contexts.{state_of}
use Rattle.nq_check.specs.Sums.{multiple_of}
use Rattle.nq_check.proofs.NumberLemmas.{with_front}
use Rattle.nq_check.proofs.context.Context.summands.Given as goal

abbrev pub invariant-loop-one : goal.invariant-loop-one
invariant-loop-one l =
    (summands_of_block (state_of l.self).block (map multiple_of l.multiples) ≡ with_front (summands_at l.self.bank l.summands.items) (summands_of_block (state_of l.self).block (map multiple_of (drop l.one-index l.multiples))))
    × LiteralsStand l.self.bank l.summands.items
