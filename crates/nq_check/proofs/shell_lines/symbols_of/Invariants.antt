-- The names so far have their symbols.
use Rattle.std.proofs.Common.{◌≡◌, take}
use Rattle.std.specs.Prelude.{All}
use Rattle.nq_bank.specs.Content.{Grows, IsNamed}
use Rattle.nq_bank.specs.Shells.{texts_at}
use Rattle.nq_check.proofs.shell_lines.symbols_of.Given as goal

abbrev pub invariant-loop-name : goal.invariant-loop-name
invariant-loop-name l =
    record {
      grows : Grows l.fn.bank l.bank;
      stand : All (IsNamed l.bank) l.found.items;
      texts : texts_at l.bank l.found.items ≡ take l.name-index l.names;
    }
