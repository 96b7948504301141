-- Work has only grown.
use Rattle.nq_kernel.specs.Growing.{WorkGrows}
use Rattle.nq_rewrite.proofs.binding.bound_instance.Given as goal

abbrev pub invariant-loop-at : goal.invariant-loop-at
invariant-loop-at l =
    record {
      grows : WorkGrows l.fn.history l.fn.work l.work;
    }
