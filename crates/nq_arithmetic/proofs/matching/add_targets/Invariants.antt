-- The instances so far are in.
use Rattle.std.specs.Prelude.{All}
use Rattle.nq_kernel.specs.Growing.{WorkGrows}
use Rattle.nq_instances.specs.Parts.{IsLine}
use Rattle.nq_arithmetic.proofs.matching.add_targets.Given as goal

abbrev pub invariant-loop-t : goal.invariant-loop-t
invariant-loop-t l = record { grows : WorkGrows l.fn.history l.fn.work l.work; found : All (IsLine l.history l.work) l.found.items }
