-- The pairs so far are in.
use Rattle.std.specs.Prelude.{All}
use Rattle.nq_kernel.specs.Growing.{WorkGrows}
use Rattle.nq_lines.specs.Lines.{IsTermIn}
use Rattle.nq_arithmetic.proofs.matching.pairs_like.Given as goal

abbrev pub invariant-loop-t : goal.invariant-loop-t
invariant-loop-t l = record { grows : WorkGrows l.fn.history l.fn.work l.work; pairs : All (IsTermIn l.history l.work) l.pairs.items }
