-- Fewer variables are left.
use Rattle.std.proofs.Common.{◌+◌, ◌*◌, length}
use Rattle.nq_first_goal.proofs.falsehoods.+pushing.Given as goal

abbrev pub decreases-push_clauses : goal.decreases-push_clauses
decreases-push_clauses l = 2 * length l.variables.now

abbrev pub decreases-push_both : goal.decreases-push_both
decreases-push_both l = 2 * length l.rest.now + 1
