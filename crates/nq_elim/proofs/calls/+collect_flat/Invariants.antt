-- What was found so far is in.
use Rattle.std.specs.Prelude.{All}
use Rattle.nq_lines.specs.Lines.{IsTermIn}
use Rattle.nq_elim.proofs.calls.+collect_flat.Given as goal

abbrev pub decreases-collect_flat : goal.decreases-collect_flat
decreases-collect_flat l = l.t.0

abbrev pub invariant-loop-i : goal.invariant-loop-i
invariant-loop-i l = All (IsTermIn l.history l.work) l.found.items
