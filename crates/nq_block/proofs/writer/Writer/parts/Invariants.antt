-- The parts so far have their lines.
use Rattle.std.proofs.Common.{take}
use Rattle.nq_logic.specs.Terms.{Each}
use Rattle.nq_bank.specs.Shells.{parts_at}
use Rattle.nq_block.specs.Closings.{IsPartSpelled}
use Rattle.nq_block.specs.Writing.{Frame, IsWriting, IsCounted, with_parts}
use Rattle.nq_block.proofs.writer.Writer.parts.Given as goal

abbrev pub invariant-loop-part : goal.invariant-loop-part
invariant-loop-part l =
    record {
      counted : IsCounted l.self;
      writing : (frame : Frame) → IsWriting l.bank frame l.fn.self → Each IsPartSpelled (parts_at l.bank l.parts) → IsWriting l.bank (with_parts frame (parts_at l.bank (take l.part-index l.parts))) l.self;
    }
