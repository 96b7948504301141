-- The instances so far are in.
use Rattle.std.specs.Prelude.{All}
use Rattle.nq_kernel.specs.Growing.{WorkGrows}
use Rattle.nq_instances.specs.Parts.{IsLine}
use Rattle.nq_arithmetic.proofs.bounding.instances_of.Given as goal

abbrev pub invariant-loop-place : goal.invariant-loop-place
invariant-loop-place l = record { grows : WorkGrows l.fn.history l.fn.work l.work; found : All (IsLine l.history l.work) l.found.items }
