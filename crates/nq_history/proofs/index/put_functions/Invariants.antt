-- The functions so far stand at the end.
use Rattle.std.proofs.Common.{◌≡◌, ◌++◌, map, take}
use Rattle.nq_history.proofs.index.put_functions.Given as goal

abbrev pub invariant-loop-name : goal.invariant-loop-name
invariant-loop-name l =
    record {
      functions : l.functions ≡ l.fn.functions ++ map (λ f. f.0) (take l.name-index l.more);
      arities : l.arities.items ≡ l.fn.arities.items ++ map (λ f. f.1) (take l.name-index l.more);
    }
