-- The arguments of a call stand before it in the bank. The calls so far stand in the term.
use Rattle.std.specs.Prelude.{All}
use Rattle.nq_inductor.specs.Suggesting.{IsSuggestingPart}
use Rattle.nq_inductor.proofs.suggesting.+suggesting_within.Given as goal

abbrev pub decreases-suggesting_within : goal.decreases-suggesting_within
decreases-suggesting_within l = l.t.0

abbrev pub invariant-loop-i : goal.invariant-loop-i
invariant-loop-i l = All (IsSuggestingPart l.history l.work l.t) l.found.items
