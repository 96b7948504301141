-- The pairs so far.
use Rattle.std.proofs.Common.{◌≡◌, take, map}
use Rattle.nq_block.specs.Writing.{binding_in}
use Rattle.nq_block.proofs.writer.Writer.numbered_pairs.Given as goal

abbrev pub invariant-loop-pair : goal.invariant-loop-pair
invariant-loop-pair l = l.bindings.items ≡ map (binding_in l.self) (take l.pair-index l.pairs)
