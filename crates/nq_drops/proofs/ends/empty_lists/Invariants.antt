-- The lists so far are empty.
use Rattle.std.proofs.Common.{◌≡◌, ℕ, [], length, map, get_or}
use Rattle.nq_drops.proofs.ends.empty_lists.Given as goal

abbrev pub invariant-loop : goal.invariant-loop
invariant-loop l =
    record {
      count : length l.lists.items ≡ l.counter;
      empty : (n : ℕ) → get_or (map (λ ls. ls.items) l.lists.items) n [] ≡ [];
    }
