-- What is left to note makes the notes whole.
use Rattle.std.proofs.Common.{◌≡◌, ◌<◌, ℕ, suc, length, drop, get_or, if◌then◌else◌}
use Rattle.nq_drops.specs.Uses.{is_listed}
use Rattle.nq_drops.proofs.uses.note.Given as goal

abbrev pub invariant-loop-l : goal.invariant-loop-l
invariant-loop-l l =
    record {
      count : length l.last ≡ length l.fn.last;
      noted : (k : ℕ) → k < length l.fn.last → (if is_listed (suc k) (drop l.l-index l.here) then l.n else get_or l.last k 0) ≡ (if is_listed (suc k) l.here then l.n else get_or l.fn.last k 0);
    }
