-- The NOTs so far are there.
use Rattle.std.proofs.Common.{◌≡◌, map, take}
use Rattle.std.specs.Prelude.{All}
use Rattle.nq_logic.specs.Words.{not_term}
use Rattle.nq_bank.specs.Content.{Grows, Stands, terms_at}
use Rattle.nq_first_goal.proofs.falsehoods.nots_of.Given as goal

abbrev pub invariant-loop-t : goal.invariant-loop-t
invariant-loop-t l =
    record {
      grows : Grows l.fn.bank l.bank;
      stand : All (Stands l.bank) l.nots.items;
      are : terms_at l.bank l.nots.items ≡ map not_term (terms_at l.fn.bank (take l.t-index l.terms));
    }
