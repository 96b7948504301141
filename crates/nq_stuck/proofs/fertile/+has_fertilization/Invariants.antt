use Rattle.std.proofs.Common.{length}
use Rattle.nq_stuck.proofs.fertile.+has_fertilization.Given as goal

abbrev pub decreases-has_fertilization : goal.decreases-has_fertilization
decreases-has_fertilization l = length l.literals.now
