-- The rows so far have their entries.
use Rattle.std.proofs.Common.{◌≡◌, map, take}
use Rattle.std.specs.Prelude.{All}
use Rattle.nq_bank.specs.Content.{Grows}
use Rattle.nq_history.specs.Events.{all_events_at, EntryStands}
use Rattle.nq_history.specs.GroundTable.{row_event}
use Rattle.nq_history.specs.Marking.{AreMarked}
use Rattle.nq_history.proofs.ground_entries.entries_of.Given as goal

abbrev pub invariant-loop-row : goal.invariant-loop-row
invariant-loop-row l =
    record {
      grows : Grows l.fn.bank l.bank;
      stand : All (EntryStands l.bank) l.entries.items;
      marked : AreMarked l.bank l.entries.items;
      events : all_events_at l.bank l.entries.items ≡ map row_event (take l.row-index l.rows);
    }
