-- Parts stand before the whole.
use Rattle.nq_rewrite.proofs.binding.+left_for.Given as goal

abbrev pub decreases-left_for : goal.decreases-left_for
decreases-left_for l = l.rule.0
