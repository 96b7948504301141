-- The terms so far are exchanged, in work that only grows.
use Rattle.std.proofs.Common.{◌≡◌, take, map}
use Rattle.std.specs.Prelude.{All}
use Rattle.nq_bank.specs.Content.{terms_at, Stands}
use Rattle.nq_kernel.specs.Growing.{WorkGrows}
use Rattle.nq_goals.specs.Replacing.{exchanged}
use Rattle.nq_moves.specs.Exchanging.{exchange_at, HasImages}
use Rattle.nq_moves.proofs.exchanging.exchange_all.Given as goal

abbrev pub invariant-loop-t : goal.invariant-loop-t
invariant-loop-t l =
    record {
      grows : WorkGrows l.history l.fn.work l.work;
      stand : All (Stands l.work.bank) l.parts.items;
      ids : HasImages l.work.bank (exchanged (exchange_at l.fn.work.bank l.exchange)) l.known;
      done : terms_at l.work.bank l.parts.items ≡ map (exchanged (exchange_at l.fn.work.bank l.exchange)) (terms_at l.fn.work.bank (take l.t-index l.terms));
    }
