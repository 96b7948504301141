use Rattle.std.proofs.Common.{length}
use Rattle.nq_quick.proofs.tautology.+is_true_in_all.Given as goal

abbrev pub decreases-is_true_in_all : goal.decreases-is_true_in_all
decreases-is_true_in_all l = length l.others.now
