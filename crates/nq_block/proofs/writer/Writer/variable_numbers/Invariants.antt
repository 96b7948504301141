-- The numbers so far.
use Rattle.std.proofs.Common.{◌≡◌, take, map}
use Rattle.nq_block.specs.Writing.{number_in}
use Rattle.nq_block.proofs.writer.Writer.variable_numbers.Given as goal

abbrev pub invariant-loop-s : goal.invariant-loop-s
invariant-loop-s l = l.numbers.items ≡ map (λ s. number_in l.self.variables s.0) (take l.s-index l.names)
