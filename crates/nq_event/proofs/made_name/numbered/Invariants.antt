-- The name with the numeral, or a later one where that is in use.
use Rattle.std.proofs.Common.{◌≡◌, ◌+◌, ◌<◌, ◌^◌}
use Rattle.nq_bank.specs.Content.{Grows}
use Rattle.nq_history.specs.Events.{events_at, HistoryStands}
use Rattle.nq_events.specs.MadeNames.{numbered_from}
use Rattle.nq_event.proofs.made_name.numbered.Given as goal

abbrev pub decreases-loop-more : goal.decreases-loop-more
decreases-loop-more l = l.more

abbrev pub invariant-loop-more : goal.invariant-loop-more
invariant-loop-more l =
    record {
      grows : Grows l.fn.bank l.bank;
      stands : HistoryStands l.bank l.history;
      sum : l.number + l.more < 2 ^ 64;
      is : numbered_from (events_at l.fn.bank l.history) l.name 1 l.count ≡ numbered_from (events_at l.fn.bank l.history) l.name l.number l.more;
    }
