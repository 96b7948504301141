-- The steps so far.
use Rattle.std.specs.Prelude.{All}
use Rattle.nq_kernel.specs.Growing.{WorkGrows}
use Rattle.nq_induct.specs.Schemes.{IsStepIn}
use Rattle.nq_schemes.proofs.gathering.steps_of.Given as goal

abbrev pub invariant-loop-start : goal.invariant-loop-start
invariant-loop-start l = record { grows : WorkGrows l.history l.fn.work l.work; steps : All (IsStepIn l.history l.work l.basis.measure l.test) l.steps.items }
