-- The literals so far.
use Rattle.std.specs.Prelude.{All}
use Rattle.nq_lines.specs.Lines.{IsTermIn}
use Rattle.nq_schemes.proofs.plain.plain_goal.Given as goal

abbrev pub invariant-loop-literal : goal.invariant-loop-literal
invariant-loop-literal l = All (IsTermIn l.history l.work) l.plain.items
