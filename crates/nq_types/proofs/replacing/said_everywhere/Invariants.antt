-- The line so far stands.
use Rattle.nq_kernel.specs.Growing.{LineStands, WorkGrows}
use Rattle.nq_types.proofs.replacing.said_everywhere.Given as goal

abbrev pub invariant-loop-done : goal.invariant-loop-done
invariant-loop-done l =
    record {
      line : LineStands l.work l.said;
      grows : WorkGrows l.history l.fn.work l.work;
    }
