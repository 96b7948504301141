-- The arguments so far are exchanged, in work that only grows.
use Rattle.std.proofs.Common.{◌≡◌, take, map}
use Rattle.std.specs.Prelude.{All}
use Rattle.nq_bank.specs.Content.{terms_at, Stands}
use Rattle.nq_kernel.specs.Growing.{WorkGrows}
use Rattle.nq_goals.specs.Replacing.{exchanged}
use Rattle.nq_moves.specs.Exchanging.{exchange_at, HasImages}
use Rattle.nq_moves.proofs.exchanging.+exchange_within.Given as goal

abbrev pub decreases-exchange_within : goal.decreases-exchange_within
decreases-exchange_within l = l.t.0

abbrev pub invariant-loop-a : goal.invariant-loop-a
invariant-loop-a l =
    record {
      grows : WorkGrows l.history l.fn.work l.work;
      stand : All (Stands l.work.bank) l.parts.items;
      ids : HasImages l.work.bank (exchanged (exchange_at l.fn.work.bank l.exchange)) l.known;
      done : terms_at l.work.bank l.parts.items ≡ map (exchanged (exchange_at l.fn.work.bank l.exchange)) (terms_at l.fn.work.bank (take l.a-index l.a-items));
    }
