-- The facts so far are in.
use Rattle.std.specs.Prelude.{All}
use Rattle.nq_kernel.specs.Growing.{WorkGrows}
use Rattle.nq_instances.specs.Parts.{IsLine}
use Rattle.nq_tactic.proofs.numbers.numbers_of.Given as goal

abbrev pub invariant-loop-t : goal.invariant-loop-t
invariant-loop-t l = record { grows : WorkGrows l.fn.history l.fn.work l.work; facts : All (IsLine l.history l.work) l.facts.items }
