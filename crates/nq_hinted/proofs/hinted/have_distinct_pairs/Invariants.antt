-- The instances so far have distinct variables.
use Rattle.std.proofs.Common.{ℕ, ◌<◌, get_or}
use Rattle.nq_history.specs.declared.hints.Instance.{Instance}
use Rattle.nq_hinted.specs.Answers.{HasDistinctPairs}
use Rattle.nq_hinted.proofs.hinted.have_distinct_pairs.Given as goal

abbrev pub invariant-loop-instance : goal.invariant-loop-instance
invariant-loop-instance l = (k : ℕ) (d : Instance) → k < l.instance-index → HasDistinctPairs l.work.bank (get_or l.instances k d)
