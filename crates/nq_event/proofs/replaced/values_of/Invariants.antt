-- The formals so far have their values.
use Rattle.std.proofs.Common.{◌≡◌, map, take}
use Rattle.std.specs.Prelude.{All}
use Rattle.nq_logic.specs.Terms.{value_at}
use Rattle.nq_bank.specs.Content.{Grows, Stands, terms_at}
use Rattle.nq_bank.specs.Shells.{texts_at}
use Rattle.nq_clause.specs.Substitution.{PairStands}
use Rattle.nq_event.specs.EventsAt.{pair_at}
use Rattle.nq_event.proofs.replaced.values_of.Given as goal

abbrev pub invariant-loop-formal : goal.invariant-loop-formal
invariant-loop-formal l =
    record {
      grows : Grows l.fn.bank l.bank;
      pairs : All (PairStands l.bank) l.pairs;
      stand : All (Stands l.bank) l.values.items;
      are : terms_at l.bank l.values.items ≡ map (value_at (map (pair_at l.fn.bank) l.pairs)) (texts_at l.fn.bank (take l.formal-index l.formals));
    }
