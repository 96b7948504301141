-- The arguments so far have their lines.
use Rattle.std.proofs.Common.{take}
use Rattle.std.specs.Prelude.{All}
use Rattle.nq_logic.specs.Terms.{Each}
use Rattle.nq_bank.specs.Content.{terms_at}
use Rattle.nq_kernel.specs.Over.{IsTermOf, IsVariable}
use Rattle.nq_block.specs.Writing.{Frame, frame_symbols, IsWriting, IsCounted, IsWritten, Keeps}
use Rattle.nq_block.proofs.writer.Writer.+term.Given as goal

abbrev pub decreases-term : goal.decreases-term
decreases-term l = l.t.0

abbrev pub invariant-loop-a : goal.invariant-loop-a
invariant-loop-a l =
    record {
      counted : IsCounted l.self;
      writing : (frame : Frame) → IsWriting l.bank frame l.fn.self → Each (IsTermOf IsVariable (frame_symbols frame)) (terms_at l.bank l.arguments) → IsWriting l.bank frame l.self;
      written : All (IsWritten l.self) (take l.a-index l.arguments);
      keeps : Keeps l.fn.self l.self;
    }
