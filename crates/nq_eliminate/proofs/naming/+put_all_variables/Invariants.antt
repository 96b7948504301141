use Rattle.std.proofs.Common.{length}
use Rattle.nq_eliminate.proofs.naming.+put_all_variables.Given as goal

abbrev pub decreases-put_all_variables : goal.decreases-put_all_variables
decreases-put_all_variables l = length l.terms.now
