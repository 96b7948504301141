-- Arguments stand before the call.
use Rattle.nq_tactic.proofs.truths.+are_truths.Given as goal

abbrev pub decreases-are_truths : goal.decreases-are_truths
decreases-are_truths l = l.t.0
