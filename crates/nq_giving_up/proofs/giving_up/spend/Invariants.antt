-- The work has grown, and each round uses a step.
use Rattle.std.proofs.Common.{◌-◌}
use Rattle.nq_kernel.specs.Growing.{WorkGrows}
use Rattle.nq_giving_up.proofs.giving_up.spend.Given as goal

abbrev pub invariant-loop : goal.invariant-loop
invariant-loop l = WorkGrows l.history l.fn.work l.work

abbrev pub decreases-loop : goal.decreases-loop
decreases-loop l = l.work.counter.limit - l.work.counter.used
