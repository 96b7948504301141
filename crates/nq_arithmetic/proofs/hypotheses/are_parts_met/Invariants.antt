-- The work grows.
use Rattle.nq_kernel.specs.Growing.{WorkGrows}
use Rattle.nq_arithmetic.proofs.hypotheses.are_parts_met.Given as goal

abbrev pub invariant-loop-part : goal.invariant-loop-part
invariant-loop-part l = WorkGrows l.fn.history l.fn.work l.work
