-- The work has grown, and each round uses a step.
use Rattle.std.proofs.Common.{◌-◌}
use Rattle.nq_kernel.specs.Growing.{WorkGrows}
use Rattle.nq_giving_up.proofs.giving_up.ask.Given as goal

abbrev pub invariant-loop-outcome : goal.invariant-loop-outcome
invariant-loop-outcome g l = WorkGrows l.history l.fn.work l.work

abbrev pub decreases-loop-outcome : goal.decreases-loop-outcome
decreases-loop-outcome g l = l.work.counter.limit - l.work.counter.used
