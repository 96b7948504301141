use Rattle.std.proofs.Common.{length}
use Rattle.nq_normal.proofs.parts.+has_atom.Given as goal

abbrev pub decreases-has_atom : goal.decreases-has_atom
decreases-has_atom l = length l.goal.now
