-- What waits still waits for the whole, and no call more is left.
use Rattle.std.proofs.Common.{◌≡◌, ◌≤◌}
use Rattle.nq_eval.specs.Lines.{GrowsUncounted}
use Rattle.nq_eval.specs.Runs.{IsRun, run_weight}
use Rattle.nq_eval.specs.Weights.{turn_left}
use Rattle.nq_eval.proofs.evaluation.go_on.Given as goal

abbrev pub invariant-loop-work : goal.invariant-loop-work
invariant-loop-work l =
    record {
      grows : GrowsUncounted l.history l.fn.work l.work;
      is_run : IsRun l.history l.work l.memo l.run;
      whole : l.run.whole ≡ l.fn.run.whole;
      left : turn_left l.run.turn ≤ turn_left l.fn.run.turn;
    }

-- what is left to do before the next opening
abbrev pub decreases-loop-work : goal.decreases-loop-work
decreases-loop-work l = run_weight l.work.bank l.run
