-- The copies so far.
use Rattle.std.proofs.Common.{◌≡◌, take}
use Rattle.nq_induct.specs.Goals.{contents_of}
use Rattle.nq_induct.proofs.closing.copied_steps.Given as goal

abbrev pub invariant-loop-step : goal.invariant-loop-step
invariant-loop-step l = contents_of l.copy.items ≡ contents_of (take l.step-index l.steps)
