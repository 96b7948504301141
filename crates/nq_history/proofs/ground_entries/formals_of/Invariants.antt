-- The letters so far have their names.
use Rattle.std.proofs.Common.{◌≡◌, map, take}
use Rattle.std.specs.Prelude.{All}
use Rattle.nq_bank.specs.Content.{Grows, IsNamed}
use Rattle.nq_bank.specs.Shells.{texts_at}
use Rattle.nq_history.specs.GroundTable.{letter}
use Rattle.nq_history.proofs.ground_entries.formals_of.Given as goal

abbrev pub invariant-loop-letter : goal.invariant-loop-letter
invariant-loop-letter l =
    record {
      grows : Grows l.fn.bank l.bank;
      stand : All (IsNamed l.bank) l.formals.items;
      formals : texts_at l.bank l.formals.items ≡ map letter (take l.letter-index l.letters);
    }
