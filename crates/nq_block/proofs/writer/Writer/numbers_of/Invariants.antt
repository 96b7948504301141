-- The terms so far have their lines.
use Rattle.std.proofs.Common.{take}
use Rattle.std.specs.Prelude.{All}
use Rattle.nq_logic.specs.Terms.{Each}
use Rattle.nq_logic.specs.Ground.{symbols_of}
use Rattle.nq_bank.specs.Content.{terms_at}
use Rattle.nq_kernel.specs.Over.{IsTermOf, IsVariable}
use Rattle.nq_block.specs.Writing.{Frame, IsWriting, IsCounted, IsWritten, Keeps}
use Rattle.nq_block.proofs.writer.Writer.numbers_of.Given as goal

abbrev pub invariant-loop-t : goal.invariant-loop-t
invariant-loop-t l =
    record {
      counted : IsCounted l.self;
      writing : (frame : Frame) → IsWriting l.bank frame l.fn.self → Each (IsTermOf IsVariable (symbols_of frame.history)) (terms_at l.bank l.terms) → IsWriting l.bank frame l.self;
      written : All (IsWritten l.self) (take l.t-index l.terms);
      keeps : Keeps l.fn.self l.self;
    }
