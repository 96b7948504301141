-- The sizes so far are made.
use Rattle.std.proofs.Common.{◌≡◌, map, take}
use Rattle.std.specs.Prelude.{All}
use Rattle.nq_bank.specs.Content.{Grows, Stands, terms_at}
use Rattle.nq_bank.specs.Shells.{texts_at}
use Rattle.nq_events.specs.Measures.{size_measure}
use Rattle.nq_measures.proofs.tried.all_sizes.Given as goal

abbrev pub invariant-loop-formal : goal.invariant-loop-formal
invariant-loop-formal l =
    record {
      grows : Grows l.fn.bank l.bank;
      names : l.bank.names ≡ l.fn.bank.names;
      terms : terms_at l.bank l.tried.items ≡ map size_measure (texts_at l.fn.bank (take l.formal-index l.formals));
      stand : All (Stands l.bank) l.tried.items;
    }
