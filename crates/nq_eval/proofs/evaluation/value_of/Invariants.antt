-- All that waits, waits for the term in the end; and each opening that is entered leaves a call less.
use Rattle.std.proofs.Common.{◌≡◌}
use Rattle.nq_eval.specs.Lines.{GrowsUncounted}
use Rattle.nq_eval.specs.Runs.{IsRun, rests}
use Rattle.nq_eval.specs.Weights.{turn_left}
use Rattle.nq_eval.proofs.evaluation.value_of.Given as goal

abbrev pub invariant-loop-run : goal.invariant-loop-run
invariant-loop-run l =
    record {
      grows : GrowsUncounted l.history l.fn.work l.work;
      is_run : IsRun l.history l.work l.memo l.run;
      whole : l.run.whole ≡ record { term = l.fn.t; nesting = l.fn.nesting; calls = l.fn.calls };
      at_rest : rests l.run.turn l.run.frames.items;
    }

abbrev pub decreases-loop-run : goal.decreases-loop-run
decreases-loop-run l = turn_left l.run.turn
