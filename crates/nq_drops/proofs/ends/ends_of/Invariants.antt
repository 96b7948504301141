-- The lines so far that end at each line.
use Rattle.std.proofs.Common.{◌≡◌, ◌≤◌, ◌-◌, ℕ, suc, [], nat_eq, length, map, get_or}
use Rattle.nq_drops.specs.Drops.{numbers_where}
use Rattle.nq_drops.proofs.EndLemmas.{up_to}
use Rattle.nq_drops.proofs.ends.ends_of.Given as goal

abbrev pub invariant-loop-k : goal.invariant-loop-k
invariant-loop-k l =
    record {
      count : length l.ends.items ≡ suc (length l.last);
      ends : (n : ℕ) → n ≤ length l.last → get_or (map (λ ls. ls.items) l.ends.items) n [] ≡ numbers_where (λ l'. nat_eq (get_or l.last (l' - 1) 0) n) 1 (up_to l.k n);
    }
