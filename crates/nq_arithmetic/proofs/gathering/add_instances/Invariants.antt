-- The facts so far are in.
use Rattle.std.specs.Prelude.{All}
use Rattle.nq_kernel.specs.Growing.{WorkGrows}
use Rattle.nq_arithmetic.specs.Claims.{IsAssumptionIn}
use Rattle.nq_arithmetic.proofs.gathering.add_instances.Given as goal

abbrev pub invariant-loop-instance : goal.invariant-loop-instance
invariant-loop-instance l = record { grows : WorkGrows l.fn.history l.fn.work l.work; found : All (IsAssumptionIn l.history l.work) l.found.items }
