-- Each place is passed once.
use Rattle.std.proofs.Common.{◌+◌, ◌-◌, ◌*◌}
use Rattle.nq_rewrite.proofs.kinded.+kinded.Given as goal

abbrev pub decreases-reduce_from : goal.decreases-reduce_from
decreases-reduce_from l = 3 * (16 - l.place)

abbrev pub decreases-reduce_under : goal.decreases-reduce_under
decreases-reduce_under l = 3 * (16 - l.place) + 2

abbrev pub decreases-reduce_assumed : goal.decreases-reduce_assumed
decreases-reduce_assumed l = 3 * (16 - l.place) + 1
