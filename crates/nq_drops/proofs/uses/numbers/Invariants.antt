-- The numbers so far.
use Rattle.std.proofs.Common.{◌≡◌, ◌<◌, ℕ, suc, length, get_or}
use Rattle.nq_drops.proofs.uses.numbers.Given as goal

abbrev pub invariant-loop-k : goal.invariant-loop-k
invariant-loop-k l =
    record {
      count : length l.all.items ≡ l.k;
      numbers : (j : ℕ) → j < l.k → get_or l.all.items j 0 ≡ suc j;
    }
