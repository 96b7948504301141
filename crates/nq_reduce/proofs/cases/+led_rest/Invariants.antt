use Rattle.std.proofs.Common.{◌-◌, length}
use Rattle.nq_reduce.proofs.cases.+led_rest.Given as goal

abbrev pub decreases-led_rest : goal.decreases-led_rest
decreases-led_rest l = length l.literals.now - l.place
