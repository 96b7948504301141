use Rattle.std.proofs.Common.{◌-◌, length}
use Rattle.nq_reduce.proofs.dropping.+kept_rest.Given as goal

abbrev pub decreases-kept_rest : goal.decreases-kept_rest
decreases-kept_rest l = length l.literals.now - l.place
