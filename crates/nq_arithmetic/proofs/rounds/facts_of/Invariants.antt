-- The facts so far are in.
use Rattle.std.specs.Prelude.{All}
use Rattle.nq_kernel.specs.Growing.{WorkGrows}
use Rattle.nq_arithmetic.specs.Claims.{IsAssumptionIn}
use Rattle.nq_arithmetic.proofs.rounds.facts_of.Given as goal

abbrev pub invariant-loop-round : goal.invariant-loop-round
invariant-loop-round l = record { grows : WorkGrows l.fn.history l.fn.work l.work; found : All (IsAssumptionIn l.history l.work) l.found.items }
