-- The goals so far are those without copies.
use Rattle.std.proofs.Common.{◌≡◌, map, take}
use Rattle.std.specs.Prelude.{All}
use Rattle.nq_proof.specs.Clauses.{distinct}
use Rattle.nq_waterfall.specs.Ready.{IsGoalIn}
use Rattle.nq_waterfall.specs.Trails.{goals_at}
use Rattle.nq_legal.proofs.thinning.without_copies.Given as goal

abbrev pub invariant-loop-goal : goal.invariant-loop-goal
invariant-loop-goal l =
    record {
      goals : goals_at l.work.bank l.thin.items ≡ map distinct (goals_at l.work.bank (take l.goal-index l.goals));
      inside : All (λ goal. IsGoalIn l.history l.work goal.items) l.thin.items;
    }
