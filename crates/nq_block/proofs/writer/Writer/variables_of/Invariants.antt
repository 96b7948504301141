-- The variables so far have their lines.
use Rattle.std.proofs.Common.{take}
use Rattle.std.specs.Prelude.{All}
use Rattle.nq_logic.specs.Terms.{Each}
use Rattle.nq_bank.specs.Shells.{texts_at}
use Rattle.nq_kernel.specs.Over.{IsVariable}
use Rattle.nq_block.specs.Writing.{Frame, IsWriting, IsCounted, IsVariableWritten, Keeps}
use Rattle.nq_block.proofs.writer.Writer.variables_of.Given as goal

abbrev pub invariant-loop-s : goal.invariant-loop-s
invariant-loop-s l =
    record {
      counted : IsCounted l.self;
      writing : (frame : Frame) → IsWriting l.bank frame l.fn.self → Each IsVariable (texts_at l.bank l.names) → IsWriting l.bank frame l.self;
      written : All (IsVariableWritten l.self) (take l.s-index l.names);
      keeps : Keeps l.fn.self l.self;
    }
