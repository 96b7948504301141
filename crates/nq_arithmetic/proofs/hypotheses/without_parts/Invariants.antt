-- The line so far stands.
use Rattle.nq_kernel.specs.Growing.{LineStands, WorkGrows}
use Rattle.nq_arithmetic.proofs.hypotheses.without_parts.Given as goal

abbrev pub invariant-loop-part : goal.invariant-loop-part
invariant-loop-part l = record { grows : WorkGrows l.fn.history l.fn.work l.work; line : LineStands l.work l.last }
