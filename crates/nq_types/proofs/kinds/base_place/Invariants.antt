-- The first such shell is among those that are left.
use Rattle.std.proofs.Common.{◌≡◌, drop}
use Rattle.nq_bank.specs.Content.{text_at}
use Rattle.nq_bank.specs.Shells.{shells_at}
use Rattle.nq_types.specs.Finding.{first_from, has_base}
use Rattle.nq_types.proofs.kinds.base_place.Given as goal

abbrev pub invariant-loop-shell : goal.invariant-loop-shell
invariant-loop-shell l =
    record {
      count : l.place ≡ l.shell-index;
      rest : first_from (has_base (text_at l.bank l.f)) l.place (shells_at l.bank (drop l.shell-index l.shells)) ≡ first_from (has_base (text_at l.bank l.f)) 0 (shells_at l.bank l.shells);
    }
