use Rattle.std.proofs.Common.{length}
use Rattle.nq_rule_table.proofs.putting.+has_rewrite.Given as goal

abbrev pub decreases-has_rewrite : goal.decreases-has_rewrite
decreases-has_rewrite l = length l.classes.now
