-- The line so far stands.
use Rattle.nq_kernel.specs.Growing.{LineStands, WorkGrows}
use Rattle.nq_arithmetic.proofs.resolving.resolved.Given as goal

abbrev pub invariant-loop-done : goal.invariant-loop-done
invariant-loop-done l = record { grows : WorkGrows l.fn.history l.fn.work l.work; line : LineStands l.work l.last }
