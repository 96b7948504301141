-- The parts so far have their names.
use Rattle.std.proofs.Common.{◌≡◌, take}
use Rattle.std.specs.Prelude.{All}
use Rattle.nq_bank.specs.Content.{Grows}
use Rattle.nq_bank.specs.Shells.{parts_at, PartStands}
use Rattle.nq_events.specs.Parts.{part_in}
use Rattle.nq_event.specs.Reads.{read_each}
use Rattle.nq_event.specs.Shapes.{no_part}
use Rattle.nq_event.proofs.shell_names.parts_of.Given as goal

abbrev pub invariant-loop-form : goal.invariant-loop-form
invariant-loop-form l =
    record {
      grows : Grows l.fn.bank l.bank;
      stand : All (PartStands l.bank) l.parts.items;
      are : parts_at l.bank l.parts.items ≡ read_each part_in no_part (take l.form-index l.forms);
    }
