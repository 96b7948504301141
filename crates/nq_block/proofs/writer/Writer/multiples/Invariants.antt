-- The literals so far have their lines.
use Rattle.std.proofs.Common.{take, map}
use Rattle.std.specs.Prelude.{All}
use Rattle.nq_logic.specs.Terms.{Each}
use Rattle.nq_logic.specs.Ground.{symbols_of}
use Rattle.nq_linear_rule.specs.Sums.{summands_at}
use Rattle.nq_kernel.specs.Over.{IsTermOf, IsVariable}
use Rattle.nq_block.specs.Writing.{Frame, IsWriting, IsCounted, IsSummandWritten, Keeps}
use Rattle.nq_block.proofs.writer.Writer.multiples.Given as goal

abbrev pub invariant-loop-one : goal.invariant-loop-one
invariant-loop-one l =
    record {
      counted : IsCounted l.self;
      writing : (frame : Frame) → IsWriting l.bank frame l.fn.self → Each (IsTermOf IsVariable (symbols_of frame.history)) (map (λ s. s.literal) (summands_at l.bank l.summands)) → IsWriting l.bank frame l.self;
      written : All (IsSummandWritten l.self) (take l.one-index l.summands);
      keeps : Keeps l.fn.self l.self;
    }
