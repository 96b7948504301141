-- As many names as were dropped are gone from the end, and the map finds those that are left.
use Rattle.std.proofs.Common.{◌≡◌, ◌≤◌, ◌+◌, length, take}
use Rattle.nq_history.specs.Places.{FindsPlaces}
use Rattle.nq_history.proofs.names.keep_first.Given as goal

abbrev pub invariant-loop-dropped : goal.invariant-loop-dropped
invariant-loop-dropped l =
    record {
      count : length l.list.items + l.dropped ≡ l.length + l.count;
      list : l.list.items ≡ take (length l.list.items) l.fn.list.items;
      all : l.length ≤ l.count → l.list.items ≡ l.fn.list.items;
      finds : FindsPlaces l.list.items l.places;
    }
