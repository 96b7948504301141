-- The names with the numerals below the number are in use.
use Rattle.std.proofs.Common.{◌≡◌, ◌/◌}
use Rattle.nq_history.specs.Events.{events_at}
use Rattle.nq_event.specs.Untried.{front_of, IsUntried}
use Rattle.nq_event.proofs.made_name.first_untried.Given as goal

abbrev pub invariant-loop-e : goal.invariant-loop-e
invariant-loop-e l =
    record {
      untried : IsUntried (events_at l.bank l.history) l.name l.count l.number;
      front : l.front.items ≡ front_of l.name (l.number / 10);
    }
