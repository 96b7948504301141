-- What was kept so far is in.
use Rattle.std.specs.Prelude.{All}
use Rattle.nq_lines.specs.Lines.{IsTermIn}
use Rattle.nq_elim.proofs.destructors.calls_with.Given as goal

abbrev pub invariant-loop-call : goal.invariant-loop-call
invariant-loop-call l = All (IsTermIn l.history l.work) l.kept.items
