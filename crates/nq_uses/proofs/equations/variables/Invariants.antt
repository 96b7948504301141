-- The variables so far are there.
use Rattle.std.proofs.Common.{◌≡◌, map, take}
use Rattle.std.specs.Prelude.{All}
use Rattle.nq_logic.specs.Terms.{Variable}
use Rattle.nq_bank.specs.Content.{Grows, Stands, terms_at}
use Rattle.nq_bank.specs.Shells.{texts_at}
use Rattle.nq_uses.proofs.equations.variables.Given as goal

abbrev pub invariant-loop-name : goal.invariant-loop-name
invariant-loop-name l =
    record {
      grows : Grows l.fn.bank l.bank;
      names : l.bank.names ≡ l.fn.bank.names;
      stand : All (Stands l.bank) l.ids.items;
      are : terms_at l.bank l.ids.items ≡ map Variable (texts_at l.fn.bank (take l.name-index l.names));
    }
