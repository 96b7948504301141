-- Fewer parts are left.
use Rattle.std.proofs.Common.{◌-◌, length}
use Rattle.nq_decrease.proofs.own_levels.+place_of.Given as goal

abbrev pub decreases-place_of : goal.decreases-place_of
decreases-place_of l = length l.parts.now - l.from
