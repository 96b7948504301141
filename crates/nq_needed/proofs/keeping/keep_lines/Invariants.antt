-- What is kept has grown.
use Rattle.nq_kernel.specs.Growing.{WorkGrows}
use Rattle.nq_needed.proofs.keeping.keep_lines.Given as goal

abbrev pub invariant-loop-marked : goal.invariant-loop-marked
invariant-loop-marked l = WorkGrows l.history l.fn.kept l.kept
