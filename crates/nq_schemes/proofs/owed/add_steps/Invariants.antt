-- The goals so far.
use Rattle.nq_kernel.specs.Growing.{WorkGrows}
use Rattle.nq_schemes.specs.Owed.{AreGoalsIn}
use Rattle.nq_schemes.proofs.owed.add_steps.Given as goal

abbrev pub invariant-loop-step : goal.invariant-loop-step
invariant-loop-step l = record { grows : WorkGrows l.history l.fn.work l.work; owed : AreGoalsIn l.history l.work l.goals.items }
