use Rattle.std.proofs.Common.{length}
use Rattle.nq_legal.proofs.generalizing.+goals_above.Given as goal

abbrev pub decreases-goals_above : goal.decreases-goals_above
decreases-goals_above l = length l.path.now
