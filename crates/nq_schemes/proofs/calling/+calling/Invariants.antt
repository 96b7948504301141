-- Parts of a body stand before it.
use Rattle.std.proofs.Common.{◌+◌, ◌*◌}
use Rattle.nq_schemes.proofs.calling.+calling.Given as goal

abbrev pub decreases-add_calls : goal.decreases-add_calls
decreases-add_calls l = 2 * l.place.body.0 + 1

abbrev pub decreases-add_condition_calls : goal.decreases-add_condition_calls
decreases-add_condition_calls l = 2 * l.place.body.0
