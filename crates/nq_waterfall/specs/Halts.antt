-- Why goals are left before they are solved.
use Rattle.nq_kernel.specs.declared.work.Stop.{Stop}
use Rattle.nq_kernel.specs.declared.work.Stop.TheVariants as stop
use Rattle.nq_waterfall.specs.declared.halt.Halt.{Halt}
use Rattle.nq_waterfall.specs.declared.halt.Halt.TheVariants.{OutOfSteps, Memory}

-- work that stops leaves the goal
abbrev pub halt_of : Stop → Halt
halt_of stop.OutOfSteps = OutOfSteps
halt_of stop.Memory = Memory
