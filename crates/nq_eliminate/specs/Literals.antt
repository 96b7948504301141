-- The literals of the goals of a path.
use Rattle.std.specs.Prelude.{List, [], ◌∷◌, ◌++◌, Vec}
use Rattle.std.specs.declared.alloc.Global.{Global}
use Rattle.nq_bank.specs.declared.node.TermId.{TermId}

abbrev pub joined : List (Vec TermId Global) → List TermId
joined [] = []
joined (goal ∷ path) = goal.items ++ joined path
