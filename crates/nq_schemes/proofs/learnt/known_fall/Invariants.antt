-- The work grows.
use Rattle.nq_kernel.specs.Growing.{WorkGrows}
use Rattle.nq_schemes.proofs.learnt.known_fall.Given as goal

abbrev pub invariant-loop-place : goal.invariant-loop-place
invariant-loop-place l = record { grows : WorkGrows l.history l.fn.work l.work }
