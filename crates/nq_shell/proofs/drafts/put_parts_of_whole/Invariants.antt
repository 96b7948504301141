-- The parts that are left, put on the stack, make what all make.
use Rattle.std.proofs.Common.{◌≡◌, drop}
use Rattle.std.specs.Prelude.{All}
use Rattle.nq_logic.specs.Shells.{accessed, whole}
use Rattle.nq_bank.specs.Shells.{parts_at}
use Rattle.nq_steps.specs.Steps.{pushed, stack_of, StepStands}
use Rattle.nq_shell.proofs.drafts.put_parts_of_whole.Given as goal

abbrev pub invariant-loop-part : goal.invariant-loop-part
invariant-loop-part l =
    record {
      stand : All (StepStands l.bank) l.steps.items;
      makes : pushed (accessed whole (parts_at l.bank (drop l.part-index l.parts))) (stack_of l.bank l.steps.items) ≡ pushed (accessed whole (parts_at l.bank l.parts)) (stack_of l.bank l.fn.steps.items);
    }
