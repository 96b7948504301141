-- Work has only grown.
use Rattle.nq_history.specs.Events.{events_at}
use Rattle.nq_kernel.specs.Growing.{WorkGrows}
use Rattle.nq_lines.specs.OwnTerms.{HasOwnTerms}
use Rattle.nq_search.specs.Goals.{IsGoalIn}
use Rattle.nq_tactic.proofs.tested.tested_line.Given as goal

abbrev pub invariant-loop-at : goal.invariant-loop-at
invariant-loop-at l =
    record {
      grows : WorkGrows l.fn.history l.fn.work l.work;
      terms : IsGoalIn l.fn.history l.work l.fn.goal;
      ready : HasOwnTerms (events_at l.work.bank l.fn.history);
    }
