-- Fewer formals are left.
use Rattle.std.proofs.Common.{length}
use Rattle.nq_tracer.proofs.changes.+changes_at.Given as goal

abbrev pub decreases-changes_at : goal.decreases-changes_at
decreases-changes_at l = length l.left.now
