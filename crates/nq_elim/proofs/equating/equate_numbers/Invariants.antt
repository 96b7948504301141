-- The work only grows.
use Rattle.nq_kernel.specs.Growing.{WorkGrows}
use Rattle.nq_elim.proofs.equating.equate_numbers.Given as goal

abbrev pub invariant-loop-literal : goal.invariant-loop-literal
invariant-loop-literal l = WorkGrows l.history l.fn.work l.work
