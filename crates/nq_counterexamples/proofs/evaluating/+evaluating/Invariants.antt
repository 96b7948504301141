-- A term takes one level. Within a level the functions are ranked.
use Rattle.std.proofs.Common.{◌+◌, ◌*◌}
use Rattle.nq_counterexamples.proofs.evaluating.+evaluating.Given as goal

abbrev pub decreases-evaluate : goal.decreases-evaluate
decreases-evaluate l = 3 * l.depth

abbrev pub decreases-evaluate_call : goal.decreases-evaluate_call
decreases-evaluate_call l = 3 * l.depth + 2

abbrev pub decreases-evaluate_choice : goal.decreases-evaluate_choice
decreases-evaluate_choice l = 3 * l.depth + 1

abbrev pub decreases-evaluate_defined : goal.decreases-evaluate_defined
decreases-evaluate_defined l = 3 * l.depth + 1
