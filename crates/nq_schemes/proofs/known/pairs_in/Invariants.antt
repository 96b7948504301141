-- The pairs so far.
use Rattle.std.specs.Prelude.{All}
use Rattle.nq_schemes.specs.Known.{IsPairIn}
use Rattle.nq_schemes.proofs.known.pairs_in.Given as goal

abbrev pub invariant-loop-c : goal.invariant-loop-c
invariant-loop-c l = All (IsPairIn l.history l.work) l.pairs.items
