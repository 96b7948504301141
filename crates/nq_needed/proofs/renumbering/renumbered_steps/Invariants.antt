-- The instances so far.
use Rattle.std.proofs.Common.{take}
use Rattle.nq_needed.specs.Renumbering.{number_in, AreRenumberedSteps}
use Rattle.nq_needed.proofs.renumbering.renumbered_steps.Given as goal

abbrev pub invariant-loop-step : goal.invariant-loop-step
invariant-loop-step l = AreRenumberedSteps (number_in l.numbers) (take l.step-index l.steps) l.made.items
