-- The work only grows.
use Rattle.nq_kernel.specs.Growing.{WorkGrows}
use Rattle.nq_elim.proofs.eliminating.from_rank.Given as goal

abbrev pub invariant-loop-rank : goal.invariant-loop-rank
invariant-loop-rank l = WorkGrows l.history l.fn.work l.work
