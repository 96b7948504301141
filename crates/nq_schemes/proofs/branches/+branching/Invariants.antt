-- Parts of a body stand before it.
use Rattle.std.proofs.Common.{◌+◌, ◌*◌}
use Rattle.nq_schemes.proofs.branches.+branching.Given as goal

abbrev pub decreases-add_branches : goal.decreases-add_branches
decreases-add_branches l = 2 * l.place.body.0 + 1

abbrev pub decreases-add_branches_under : goal.decreases-add_branches_under
decreases-add_branches_under l = 2 * l.place.body.0
