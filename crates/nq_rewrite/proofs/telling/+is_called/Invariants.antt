-- Arguments stand before the call.
use Rattle.nq_rewrite.proofs.telling.+is_called.Given as goal

abbrev pub decreases-is_called : goal.decreases-is_called
decreases-is_called l = l.t.0
