-- The numbers so far.
use Rattle.std.proofs.Common.{◌≡◌, take, map}
use Rattle.nq_block.specs.Writing.{number_in}
use Rattle.nq_block.proofs.writer.Writer.numbers.Given as goal

abbrev pub invariant-loop-t : goal.invariant-loop-t
invariant-loop-t l = l.numbers.items ≡ map (λ t. number_in l.self.terms t.0) (take l.t-index l.terms)
