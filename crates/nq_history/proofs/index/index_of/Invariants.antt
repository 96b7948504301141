-- The index is that of the entries so far.
use Rattle.std.proofs.Common.{take}
use Rattle.nq_history.specs.Functions.{IsIndexOf}
use Rattle.nq_history.proofs.index.index_of.Given as goal

abbrev pub invariant-loop-e : goal.invariant-loop-e
invariant-loop-e l = IsIndexOf (take l.e-index l.entries) l.index
