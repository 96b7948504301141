-- The rows so far have their parts.
use Rattle.std.proofs.Common.{◌≡◌, map, take}
use Rattle.std.specs.Prelude.{All}
use Rattle.nq_bank.specs.Shells.{parts_at, PartStands}
use Rattle.nq_history.specs.GroundTable.{row_part}
use Rattle.nq_history.proofs.ground_entries.parts_of.Given as goal

abbrev pub invariant-loop-row : goal.invariant-loop-row
invariant-loop-row l =
    record {
      stand : All (PartStands l.bank) l.parts.items;
      parts : parts_at l.bank l.parts.items ≡ map row_part (take l.row-index l.rows);
    }
