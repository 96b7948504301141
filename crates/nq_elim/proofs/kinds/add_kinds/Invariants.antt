-- The facts so far hold.
use Rattle.std.specs.Prelude.{[], All}
use Rattle.nq_kernel.specs.Growing.{WorkGrows}
use Rattle.nq_elim.specs.Reasons.{FactHolds}
use Rattle.nq_elim.proofs.kinds.add_kinds.Given as goal

abbrev pub invariant-loop-place : goal.invariant-loop-place
invariant-loop-place l = record { grows : WorkGrows l.fn.history l.fn.work l.work; found : All (FactHolds l.history l.work []) l.found.items }
