-- The line so far stands.
use Rattle.nq_kernel.specs.Growing.{LineStands, WorkGrows}
use Rattle.nq_types.proofs.denying.without_all.Given as goal

abbrev pub invariant-loop-a : goal.invariant-loop-a
invariant-loop-a l =
    record {
      line : LineStands l.work l.told;
      grows : WorkGrows l.history l.fn.work l.work;
    }
