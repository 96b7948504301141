-- The work only grows.
use Rattle.nq_kernel.specs.Growing.{WorkGrows}
use Rattle.nq_elim.proofs.differing.by_calls.Given as goal

abbrev pub invariant-loop-call : goal.invariant-loop-call
invariant-loop-call l = WorkGrows l.history l.fn.work l.work
