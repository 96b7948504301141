-- The functions of the entries so far.
use Rattle.std.proofs.Common.{◌≡◌, length, take}
use Rattle.nq_history.specs.Functions.{functions_of}
use Rattle.nq_history.proofs.index.count_functions.Given as goal

abbrev pub invariant-loop-e : goal.invariant-loop-e
invariant-loop-e l = l.count ≡ length (functions_of (take l.e-index l.entries))
