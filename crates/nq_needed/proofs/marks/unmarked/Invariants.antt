-- The marks so far.
use Rattle.std.proofs.Common.{◌≡◌, length}
use Rattle.nq_needed.proofs.marks.unmarked.Given as goal

abbrev pub invariant-loop : goal.invariant-loop
invariant-loop l = length l.marks.items ≡ l.counter
