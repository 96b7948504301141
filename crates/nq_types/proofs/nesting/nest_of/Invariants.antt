-- The nest so far is at hand.
use Rattle.std.specs.Prelude.{IfSome}
use Rattle.nq_kernel.specs.Growing.{WorkGrows}
use Rattle.nq_types.specs.Guessing.{IsGuessed}
use Rattle.nq_types.proofs.nesting.nest_of.Given as goal

abbrev pub invariant-loop-done : goal.invariant-loop-done
invariant-loop-done l =
    record {
      nest : IfSome l.nest (IsGuessed l.history l.work);
      grows : WorkGrows l.history l.fn.work l.work;
    }
