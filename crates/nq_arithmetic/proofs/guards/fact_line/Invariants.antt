-- The line so far stands.
use Rattle.nq_kernel.specs.Growing.{LineStands, WorkGrows}
use Rattle.nq_arithmetic.proofs.guards.fact_line.Given as goal

abbrev pub invariant-loop-guard : goal.invariant-loop-guard
invariant-loop-guard l = record { grows : WorkGrows l.fn.history l.fn.work l.work; line : LineStands l.work l.line }
