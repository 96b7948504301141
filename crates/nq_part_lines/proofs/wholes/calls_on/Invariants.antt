-- The calls so far, and those that are still to be made.
use Rattle.std.proofs.Common.{◌≡◌, ◌++◌, drop}
use Rattle.std.specs.Prelude.{All}
use Rattle.nq_logic.specs.Shells.{accessed, whole}
use Rattle.nq_bank.specs.Content.{terms_at}
use Rattle.nq_bank.specs.Shells.{parts_at}
use Rattle.nq_replay.specs.Uncounted.{GrowsUncounted}
use Rattle.nq_part_lines.specs.Small.{IsSmallIn}
use Rattle.nq_part_lines.proofs.wholes.calls_on.Given as goal

abbrev pub invariant-loop-part : goal.invariant-loop-part
invariant-loop-part l =
    record {
      grows : GrowsUncounted l.history l.fn.work l.work;
      small : All (IsSmallIn l.history l.work) l.calls.items;
      terms : terms_at l.work.bank l.calls.items ++ accessed whole (parts_at l.fn.work.bank (drop l.part-index l.parts)) ≡ accessed whole (parts_at l.fn.work.bank l.parts);
    }
