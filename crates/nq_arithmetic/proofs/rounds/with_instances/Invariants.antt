-- The terms so far are in.
use Rattle.std.specs.Prelude.{All}
use Rattle.nq_lines.specs.Lines.{IsTermIn}
use Rattle.nq_arithmetic.proofs.rounds.with_instances.Given as goal

abbrev pub invariant-loop-instance : goal.invariant-loop-instance
invariant-loop-instance l = All (IsTermIn l.history l.work) l.terms.items
