-- The exchange so far is that of the pairs so far, in work that only grows.
use Rattle.std.proofs.Common.{◌≡◌, take}
use Rattle.std.specs.Prelude.{All}
use Rattle.nq_clause.specs.Substitution.{substitution_at}
use Rattle.nq_kernel.specs.Growing.{WorkGrows}
use Rattle.nq_moves.specs.Exchanging.{exchange_at, ExchangeStands}
use Rattle.nq_moves.specs.Naming.{exchange_by}
use Rattle.nq_moves.proofs.naming.exchange_of_pairs.Given as goal

abbrev pub invariant-loop-p : goal.invariant-loop-p
invariant-loop-p l =
    record {
      grows : WorkGrows l.history l.fn.work l.work;
      stand : All (ExchangeStands l.work.bank) l.exchange.items;
      done : exchange_at l.work.bank l.exchange.items ≡ exchange_by (substitution_at l.fn.work.bank (take l.p-index l.pairs));
    }
