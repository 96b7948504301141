-- The hints so far are read.
use Rattle.nq_history.specs.Events.{events_at, HistoryStands}
use Rattle.nq_event.proofs.HintLoopLemmas.{HintsSoFar}
use Rattle.nq_event.proofs.read_hints.hints_with_bad.Given as goal

abbrev pub invariant-loop-form : goal.invariant-loop-form
invariant-loop-form l =
    record {
      history : HistoryStands l.bank l.history;
      read : HintsSoFar (events_at l.fn.bank l.history) l.fn.bank l.bank l.forms l.form-index l.hints l.bad;
    }
