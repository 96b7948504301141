-- The variables that are left, put on the stack, make what all make.
use Rattle.std.proofs.Common.{◌≡◌, drop}
use Rattle.std.specs.Prelude.{All}
use Rattle.nq_logic.specs.Shells.{part_variables}
use Rattle.nq_bank.specs.Shells.{parts_at}
use Rattle.nq_steps.specs.Steps.{pushed, stack_of, StepStands}
use Rattle.nq_shell.proofs.drafts.put_variables.Given as goal

abbrev pub invariant-loop-k : goal.invariant-loop-k
invariant-loop-k l =
    record {
      stand : All (StepStands l.bank) l.steps.items;
      makes : pushed (part_variables l.k (parts_at l.bank (drop l.k l.parts))) (stack_of l.bank l.steps.items) ≡ pushed (part_variables 0 (parts_at l.bank l.parts)) (stack_of l.bank l.fn.steps.items);
    }
