-- The accessors so far stand at the end.
use Rattle.std.proofs.Common.{◌≡◌, ◌++◌, map, take}
use Rattle.nq_run.proofs.shell_names.put_accessors.Given as goal

abbrev pub invariant-loop-part : goal.invariant-loop-part
invariant-loop-part l = l.names.items ≡ l.fn.names.items ++ map (λ part. part.accessor) (take l.part-index l.parts)
