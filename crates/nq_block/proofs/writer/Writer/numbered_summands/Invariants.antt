-- The summands so far.
use Rattle.std.proofs.Common.{◌≡◌, ◌<◌, ◌^◌, take, map}
use Rattle.std.specs.Prelude.{All}
use Rattle.nq_block.specs.Writing.{multiple_in}
use Rattle.nq_block.proofs.writer.Writer.numbered_summands.Given as goal

abbrev pub invariant-loop-one : goal.invariant-loop-one
invariant-loop-one l =
    record {
      numbers : l.multiples.items ≡ map (multiple_in l.self) (take l.one-index l.summands);
      fit : All (λ s. s.factor < 2 ^ 64) (take l.one-index l.summands);
    }
