use Rattle.std.proofs.Common.{length}
use Rattle.nq_normal.proofs.rules.+entries_rewrite.Given as goal

abbrev pub decreases-entries_rewrite : goal.decreases-entries_rewrite
decreases-entries_rewrite l = length l.entries.now
