-- Arguments stand before the call, and those so far are over the history's functions.
use Rattle.std.proofs.Common.{◌≡◌, true, length, take}
use Rattle.std.specs.Prelude.{All}
use Rattle.nq_kernel.specs.Over.{TermIsIn}
use Rattle.nq_own.proofs.own.+is_over.Given as goal

abbrev pub decreases-is_over : goal.decreases-is_over
decreases-is_over l = l.t.0

abbrev pub invariant-loop-a : goal.invariant-loop-a
invariant-loop-a l =
    record {
      count : l.all ≡ true → length l.a-items ≡ l.n;
      over : l.all ≡ true → All (TermIsIn l.bank l.history) (take l.a-index l.a-items);
    }
