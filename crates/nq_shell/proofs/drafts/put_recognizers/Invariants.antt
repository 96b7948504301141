-- The recognizers that are left, put on the stack, make what all make.
use Rattle.std.proofs.Common.{◌≡◌, drop}
use Rattle.std.specs.Prelude.{All}
use Rattle.nq_logic.specs.Shells.{recognized, part_variable}
use Rattle.nq_bank.specs.Shells.{texts_at}
use Rattle.nq_steps.specs.Steps.{pushed, stack_of, StepStands}
use Rattle.nq_shell.proofs.drafts.put_recognizers.Given as goal

abbrev pub invariant-loop-name : goal.invariant-loop-name
invariant-loop-name l =
    record {
      stand : All (StepStands l.bank) l.steps.items;
      makes : pushed (recognized (texts_at l.bank (drop l.name-index l.names)) (part_variable l.place)) (stack_of l.bank l.steps.items) ≡ pushed (recognized (texts_at l.bank l.names) (part_variable l.place)) (stack_of l.bank l.fn.steps.items);
    }
