use Rattle.std.proofs.Common.{length}
use Rattle.nq_eliminate.proofs.finding.+has_elim.Given as goal

abbrev pub decreases-has_elim : goal.decreases-has_elim
decreases-has_elim l = length l.classes.now
