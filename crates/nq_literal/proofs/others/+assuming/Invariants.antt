-- Each literal is taken once. Between literals the functions are ranked.
use Rattle.std.proofs.Common.{◌+◌, ◌-◌, ◌*◌, length}
use Rattle.nq_literal.proofs.others.+assuming.Given as goal

abbrev pub decreases-rewrite_from : goal.decreases-rewrite_from
decreases-rewrite_from l = 4 * (length l.others.now - l.place) + 3

abbrev pub decreases-rewrite_under : goal.decreases-rewrite_under
decreases-rewrite_under l = 4 * (length l.others.now - l.place) + 2

abbrev pub decreases-rewrite_with : goal.decreases-rewrite_with
decreases-rewrite_with l = 4 * (length l.others.now - l.place)

abbrev pub decreases-rewrite_denying : goal.decreases-rewrite_denying
decreases-rewrite_denying l = 4 * (length l.others.now - l.place) + 1
