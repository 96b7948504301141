-- The work only grows.
use Rattle.nq_replay.specs.Uncounted.{GrowsUncounted}
use Rattle.nq_descents.proofs.nests.nest_line.Given as goal

abbrev pub invariant-loop-u : goal.invariant-loop-u
invariant-loop-u l = GrowsUncounted l.history l.fn.work l.work
