-- The facts so far have lines.
use Rattle.std.specs.Prelude.{All}
use Rattle.nq_instances.specs.Parts.{IsLine}
use Rattle.nq_arithmetic.proofs.told.add_facts.Given as goal

abbrev pub invariant-loop-fact : goal.invariant-loop-fact
invariant-loop-fact l = All (IsLine l.history l.work) l.facts.items
