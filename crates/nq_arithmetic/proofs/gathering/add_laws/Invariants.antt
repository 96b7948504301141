-- The facts so far are in.
use Rattle.std.specs.Prelude.{All}
use Rattle.nq_kernel.specs.Growing.{WorkGrows}
use Rattle.nq_arithmetic.specs.Claims.{IsAssumptionIn}
use Rattle.nq_arithmetic.proofs.gathering.add_laws.Given as goal

abbrev pub invariant-loop-t : goal.invariant-loop-t
invariant-loop-t l = record { grows : WorkGrows l.fn.history l.fn.work l.work; found : All (IsAssumptionIn l.history l.work) l.found.items }
