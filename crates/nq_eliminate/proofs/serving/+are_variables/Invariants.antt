use Rattle.std.proofs.Common.{length}
use Rattle.nq_eliminate.proofs.serving.+are_variables.Given as goal

abbrev pub decreases-are_variables : goal.decreases-are_variables
decreases-are_variables l = length l.terms.now
