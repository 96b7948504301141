-- Each pair so far is one.
use Rattle.std.specs.Prelude.{All}
use Rattle.nq_descents.specs.Pairs.{IsPairOver}
use Rattle.nq_descents.proofs.instances.pairs_of.Given as goal

abbrev pub invariant-loop-place : goal.invariant-loop-place
invariant-loop-place l = All (IsPairOver l.history l.work) l.pairs.items
