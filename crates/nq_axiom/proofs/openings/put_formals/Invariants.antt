-- The formals that are left, put on the stack, make what all make.
use Rattle.std.proofs.Common.{◌≡◌, drop, map}
use Rattle.std.specs.Prelude.{All}
use Rattle.nq_logic.specs.Terms.{Variable}
use Rattle.nq_bank.specs.Shells.{texts_at}
use Rattle.nq_steps.specs.Steps.{pushed, stack_of, StepStands}
use Rattle.nq_axiom.proofs.openings.put_formals.Given as goal

abbrev pub invariant-loop-formal : goal.invariant-loop-formal
invariant-loop-formal l =
    record {
      stand : All (StepStands l.bank) l.steps.items;
      makes : pushed (map Variable (texts_at l.bank (drop l.formal-index l.formals))) (stack_of l.bank l.steps.items) ≡ pushed (map Variable (texts_at l.bank l.formals)) (stack_of l.bank l.fn.steps.items);
    }
