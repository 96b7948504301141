-- The literals so far are in.
use Rattle.std.specs.Prelude.{All}
use Rattle.nq_lines.specs.Lines.{IsTermIn}
use Rattle.nq_arithmetic.proofs.assumptions.literals_with.Given as goal

abbrev pub invariant-loop-i : goal.invariant-loop-i
invariant-loop-i l = All (IsTermIn l.history l.work) l.literals.items
