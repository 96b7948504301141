-- The pairs so far are in.
use Rattle.std.specs.Prelude.{All}
use Rattle.nq_kernel.specs.Growing.{WorkGrows}
use Rattle.nq_lines.specs.Lines.{IsTermIn}
use Rattle.nq_arithmetic.proofs.matching.add_pairs.Given as goal

abbrev pub invariant-loop-u : goal.invariant-loop-u
invariant-loop-u l = record { grows : WorkGrows l.fn.history l.fn.work l.work; pairs : All (IsTermIn l.history l.work) l.pairs.items }
