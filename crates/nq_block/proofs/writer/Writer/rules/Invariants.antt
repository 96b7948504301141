-- The lines so far are those of the block.
use Rattle.std.specs.Prelude.{Option}
use Rattle.nq_logic.specs.Terms.{Symbol}
use Rattle.nq_block.specs.Writing.{IsWriting, IsCounted, frame_after}
use Rattle.nq_block.proofs.writer.Writer.rules.Given as goal

abbrev pub invariant-loop-k : goal.invariant-loop-k
invariant-loop-k l =
    record {
      counted : IsCounted l.self;
      writing : (introduced : Option Symbol) → IsWriting l.bank (frame_after l.bank l.history introduced l.log 0) l.fn.self → IsWriting l.bank (frame_after l.bank l.history introduced l.log l.k) l.self;
    }
