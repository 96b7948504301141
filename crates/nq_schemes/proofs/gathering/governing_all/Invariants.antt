-- The tests so far.
use Rattle.std.specs.Prelude.{All}
use Rattle.nq_kernel.specs.Growing.{WorkGrows}
use Rattle.nq_lines.specs.Lines.{IsTermIn}
use Rattle.nq_schemes.proofs.gathering.governing_all.Given as goal

abbrev pub invariant-loop-test : goal.invariant-loop-test
invariant-loop-test l = record { grows : WorkGrows l.history l.fn.work l.work; over : All (IsTermIn l.history l.work) l.governed.items }
