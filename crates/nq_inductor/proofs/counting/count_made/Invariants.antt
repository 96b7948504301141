-- A step was counted for each round.
use Rattle.std.proofs.Common.{◌≡◌, ◌+◌}
use Rattle.nq_inductor.proofs.counting.count_made.Given as goal

abbrev pub invariant-loop-counted : goal.invariant-loop-counted
invariant-loop-counted l =
    record {
      same : l.work ≡ record { bank = l.initial.work.bank; log = l.initial.work.log; counter = l.work.counter; known = l.initial.work.known };
      used : l.work.counter.used ≡ l.initial.work.counter.used + l.counted;
      limit : l.work.counter.limit ≡ l.initial.work.counter.limit;
    }
