-- The work only grows.
use Rattle.nq_replay.specs.Uncounted.{GrowsUncounted}
use Rattle.nq_descents.proofs.facts.facts_of.Given as goal

abbrev pub invariant-loop-k : goal.invariant-loop-k
invariant-loop-k l = GrowsUncounted l.history l.fn.work l.work
