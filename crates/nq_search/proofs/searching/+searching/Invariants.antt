-- Each goal is led on with one level less. Within a level the functions are ranked.
use Rattle.std.proofs.Common.{◌+◌, ◌*◌, take}
use Rattle.nq_kernel.specs.Growing.{WorkGrows}
use Rattle.nq_search.specs.Goals.{HaveLines, goals_at}
use Rattle.nq_search.proofs.searching.+searching.Given as goal

abbrev pub decreases-seek : goal.decreases-seek
decreases-seek g l = 6 * l.plan.levels

abbrev pub decreases-seek_anew : goal.decreases-seek_anew
decreases-seek_anew g l = 6 * l.plan.levels + 5

abbrev pub decreases-seek_turns : goal.decreases-seek_turns
decreases-seek_turns g l = 6 * l.plan.levels + 4

abbrev pub decreases-seek_turn : goal.decreases-seek_turn
decreases-seek_turn g l = 6 * l.plan.levels + 3

abbrev pub decreases-seek_led : goal.decreases-seek_led
decreases-seek_led g l = 6 * l.plan.levels + 2

abbrev pub decreases-seek_all : goal.decreases-seek_all
decreases-seek_all g l = 6 * l.plan.levels + 1

-- the work grew
abbrev pub invariant-seek_turns-loop-turn : goal.invariant-seek_turns-loop-turn
invariant-seek_turns-loop-turn g l = WorkGrows l.history l.fn.work l.work

-- each goal so far has a line
abbrev pub invariant-seek_all-loop-goal : goal.invariant-seek_all-loop-goal
invariant-seek_all-loop-goal g l =
    record {
      grows : WorkGrows l.history l.fn.work l.work;
      found : HaveLines l.work (goals_at l.fn.work.bank (take l.goal-index l.goals)) l.lines.items;
    }
