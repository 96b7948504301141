-- The best so far is in.
use Rattle.std.specs.Prelude.{IfSome}
use Rattle.nq_lines.specs.Lines.{IsTermIn}
use Rattle.nq_arithmetic.proofs.triggers.best_of.Given as goal

abbrev pub invariant-loop-i : goal.invariant-loop-i
invariant-loop-i l = IfSome l.best (IsTermIn l.history l.work)
