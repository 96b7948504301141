-- The accessors so far stand at the end.
use Rattle.std.proofs.Common.{◌≡◌, ◌++◌, take}
use Rattle.nq_history.specs.Functions.{accessor_functions}
use Rattle.nq_history.proofs.functions.put_accessors.Given as goal

abbrev pub invariant-loop-part : goal.invariant-loop-part
invariant-loop-part l = l.functions.items ≡ l.fn.functions.items ++ accessor_functions (take l.part-index l.parts)
