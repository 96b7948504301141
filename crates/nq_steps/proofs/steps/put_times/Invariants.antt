-- The terms are joined as many times as the loop has gone.
use Rattle.std.proofs.Common.{◌≡◌}
use Rattle.std.specs.Prelude.{All}
use Rattle.nq_bank.specs.Soundness.{ground_text}
use Rattle.nq_steps.specs.Steps.{called_times, stack_of, StepStands}
use Rattle.nq_steps.proofs.steps.put_times.Given as goal

abbrev pub invariant-loop-done : goal.invariant-loop-done
invariant-loop-done l =
    record {
      stand : All (StepStands l.bank) l.steps.items;
      makes : stack_of l.bank l.steps.items ≡ called_times (ground_text l.known) l.done (stack_of l.bank l.fn.steps.items);
    }
