-- The first such shell is among those that are left.
use Rattle.std.proofs.Common.{◌≡◌, drop}
use Rattle.nq_bank.specs.Content.{text_at}
use Rattle.nq_bank.specs.Shells.{shells_at}
use Rattle.nq_types.specs.Finding.{first_from, makes}
use Rattle.nq_types.proofs.kinds.made_place.Given as goal

abbrev pub invariant-loop-shell : goal.invariant-loop-shell
invariant-loop-shell l =
    record {
      count : l.place ≡ l.shell-index;
      rest : first_from (makes (text_at l.bank l.f) l.count) l.place (shells_at l.bank (drop l.shell-index l.shells)) ≡ first_from (makes (text_at l.bank l.f) l.count) 0 (shells_at l.bank l.shells);
    }
