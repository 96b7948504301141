-- There is one call less.
use Rattle.std.proofs.Common.{◌-◌, length}
use Rattle.nq_inductor.proofs.inducting.+inducted_from.Given as goal

abbrev pub decreases-inducted_from : goal.decreases-inducted_from
decreases-inducted_from l = length l.calls.now - l.place
