use Rattle.std.proofs.Common.{◌-◌}
use Rattle.nq_types.proofs.outside.+says_rest.Given as goal

abbrev pub decreases-says_rest : goal.decreases-says_rest
decreases-says_rest l = 64 - l.from
