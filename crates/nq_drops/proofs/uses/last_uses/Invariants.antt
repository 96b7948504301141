-- What is left to note makes the last uses.
use Rattle.std.proofs.Common.{◌≡◌, ◌<◌, ℕ, suc, length, map, drop, get_or}
use Rattle.nq_drops.specs.Uses.{last_from, last_use}
use Rattle.nq_drops.proofs.uses.last_uses.Given as goal

abbrev pub invariant-loop-k : goal.invariant-loop-k
invariant-loop-k l =
    record {
      count : length l.last.items ≡ length l.all;
      last : (j : ℕ) → j < length l.all → last_from (map (λ ls. ls.items) (drop l.k l.all)) (suc l.k) (suc j) (get_or l.last.items j 0) ≡ last_use (map (λ ls. ls.items) l.all) (suc j);
    }
