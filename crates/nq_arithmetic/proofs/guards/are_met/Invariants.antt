-- The work grows.
use Rattle.nq_kernel.specs.Growing.{WorkGrows}
use Rattle.nq_arithmetic.proofs.guards.are_met.Given as goal

abbrev pub invariant-loop-guard : goal.invariant-loop-guard
invariant-loop-guard l = WorkGrows l.fn.history l.fn.work l.work
