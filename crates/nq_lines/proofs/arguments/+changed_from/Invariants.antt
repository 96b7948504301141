-- The changes that are left get fewer.
use Rattle.std.proofs.Common.{length}
use Rattle.nq_lines.proofs.arguments.+changed_from.Given as goal

abbrev pub decreases-changed_from : goal.decreases-changed_from
decreases-changed_from l = length l.changes.now
