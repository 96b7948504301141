-- The literals so far are over the history.
use Rattle.std.specs.Prelude.{All}
use Rattle.nq_kernel.specs.Growing.{WorkGrows}
use Rattle.nq_lines.specs.Lines.{IsTermIn}
use Rattle.nq_rewrite.proofs.arithmetic.goal_of.Given as goal

abbrev pub invariant-loop-a : goal.invariant-loop-a
invariant-loop-a l = record { grows : WorkGrows l.history l.fn.work l.work; literals : All (IsTermIn l.history l.work) l.literals.items }
