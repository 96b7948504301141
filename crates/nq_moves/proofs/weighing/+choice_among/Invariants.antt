use Rattle.std.proofs.Common.{length}
use Rattle.nq_moves.proofs.weighing.+choice_among.Given as goal

abbrev pub decreases-choice_among : goal.decreases-choice_among
decreases-choice_among l = length l.literals.now
