-- The line so far.
use Rattle.nq_kernel.specs.Growing.{WorkGrows, LineStands}
use Rattle.nq_schemes.proofs.plain.spelled_line.Given as goal

abbrev pub invariant-loop-literal : goal.invariant-loop-literal
invariant-loop-literal l = record { grows : WorkGrows l.history l.fn.work l.work; line : LineStands l.work l.last }
