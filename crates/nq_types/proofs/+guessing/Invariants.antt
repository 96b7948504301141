-- A level leads to an IF, an opening or an equation. Within a level the functions are ranked.
use Rattle.std.proofs.Common.{◌+◌, ◌*◌}
use Rattle.nq_types.proofs.+guessing.Given as goal

abbrev pub decreases-guessing::told_line : goal.decreases-guessing::told_line
decreases-guessing::told_line l = 16 * l.levels + 2

abbrev pub decreases-guessing::any_line : goal.decreases-guessing::any_line
decreases-guessing::any_line l = 16 * l.levels + 1

abbrev pub decreases-guessing::deeper_line : goal.decreases-guessing::deeper_line
decreases-guessing::deeper_line l = 16 * l.levels

abbrev pub decreases-guessing::inner_line : goal.decreases-guessing::inner_line
decreases-guessing::inner_line l = 16 * l.levels + 15

abbrev pub decreases-guessing::other_line : goal.decreases-guessing::other_line
decreases-guessing::other_line l = 16 * l.levels + 14

abbrev pub decreases-guessing::opened_line : goal.decreases-guessing::opened_line
decreases-guessing::opened_line l = 16 * l.levels + 13

abbrev pub decreases-guessing::body_line : goal.decreases-guessing::body_line
decreases-guessing::body_line l = 16 * l.levels + 12

abbrev pub decreases-guessing::equal_line : goal.decreases-guessing::equal_line
decreases-guessing::equal_line l = 16 * l.levels + 13

abbrev pub decreases-guessing::line_of_equal : goal.decreases-guessing::line_of_equal
decreases-guessing::line_of_equal l = 16 * l.levels + 12

abbrev pub decreases-testing::if_line : goal.decreases-testing::if_line
decreases-testing::if_line l = 16 * l.levels + 14

abbrev pub decreases-testing::first_then_second : goal.decreases-testing::first_then_second
decreases-testing::first_then_second l = 16 * l.levels + 13

abbrev pub decreases-testing::with_second : goal.decreases-testing::with_second
decreases-testing::with_second l = 16 * l.levels + 12

abbrev pub decreases-testing::second_alone : goal.decreases-testing::second_alone
decreases-testing::second_alone l = 16 * l.levels + 12

abbrev pub decreases-testing::second_line : goal.decreases-testing::second_line
decreases-testing::second_line l = 16 * l.levels + 11

abbrev pub decreases-testing::first_line : goal.decreases-testing::first_line
decreases-testing::first_line l = 16 * l.levels + 11
