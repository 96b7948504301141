-- The calls so far are calls of the goal.
use Rattle.std.specs.Prelude.{All}
use Rattle.nq_inductor.specs.Suggesting.{IsSuggestingCall}
use Rattle.nq_inductor.proofs.suggesting.suggesting_calls.Given as goal

abbrev pub invariant-loop-i : goal.invariant-loop-i
invariant-loop-i l = All (IsSuggestingCall l.history l.work l.goal) l.found.items
