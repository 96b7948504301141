use Rattle.std.proofs.Common.{length}
use Rattle.nq_quick.proofs.literals.+are_literals.Given as goal

abbrev pub decreases-are_literals : goal.decreases-are_literals
decreases-are_literals l = length l.literals.now
