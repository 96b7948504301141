use Rattle.std.proofs.Common.{length}
use Rattle.nq_stuck.proofs.substituting.+has_substitution.Given as goal

abbrev pub decreases-has_substitution : goal.decreases-has_substitution
decreases-has_substitution l = length l.literals.now
