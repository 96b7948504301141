-- Terms that are variables.
use Rattle.std.specs.Prelude.{Bool, true, false, ◌&&◌, ◌||◌, not, bytes_eq, List, [], ◌∷◌}
use Rattle.nq_logic.specs.Terms.{Name, Term, Variable, Function, Applied}

-- whether the term is the variable of a name
abbrev pub is_variable : Name → Term → Bool
is_variable x (Variable y) = bytes_eq x y
is_variable x (Function f) = false
is_variable x (Applied t u) = false

-- whether one of the terms is
abbrev pub has_variable : Name → List Term → Bool
has_variable x [] = false
has_variable x (t ∷ ts) = is_variable x t || has_variable x ts

-- whether the term is a variable that is none of the others
abbrev pub is_apart : Term → List Term → Bool
is_apart (Variable x) ts = not (has_variable x ts)
is_apart (Function f) ts = false
is_apart (Applied t u) ts = false

-- whether the terms are variables, none of them twice
abbrev pub are_distinct_variables : List Term → Bool
are_distinct_variables [] = true
are_distinct_variables (t ∷ ts) = is_apart t ts && are_distinct_variables ts
