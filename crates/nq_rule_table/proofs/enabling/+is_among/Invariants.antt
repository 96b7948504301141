use Rattle.std.proofs.Common.{length}
use Rattle.nq_rule_table.proofs.enabling.+is_among.Given as goal

abbrev pub decreases-is_among : goal.decreases-is_among
decreases-is_among l = length l.names.now
