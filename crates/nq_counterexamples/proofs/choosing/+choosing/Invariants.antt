-- A nest takes one level. Within a level the functions are ranked.
use Rattle.std.proofs.Common.{◌+◌, ◌*◌}
use Rattle.nq_counterexamples.proofs.choosing.+choosing.Given as goal

abbrev pub decreases-chosen_value : goal.decreases-chosen_value
decreases-chosen_value l = 5 * l.depth + 1

abbrev pub decreases-chosen_any_object : goal.decreases-chosen_any_object
decreases-chosen_any_object l = 5 * l.depth + 4

abbrev pub decreases-chosen_list : goal.decreases-chosen_list
decreases-chosen_list l = 5 * l.depth + 2

abbrev pub decreases-chosen_object : goal.decreases-chosen_object
decreases-chosen_object l = 5 * l.depth

abbrev pub decreases-chosen_made : goal.decreases-chosen_made
decreases-chosen_made l = 5 * l.depth + 3

abbrev pub decreases-chosen_part : goal.decreases-chosen_part
decreases-chosen_part l = 5 * l.depth + 2
