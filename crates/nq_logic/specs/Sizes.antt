-- How deep terms are, and how many nodes they have.
use Rattle.std.specs.Prelude.{ℕ, ◌+◌, ◌^◌, max, if◌then◌else◌, List, [], ◌∷◌}
use Rattle.nq_logic.specs.Terms.{Term, Variable, Function, Applied}
use Rattle.nq_logic.specs.Numerals.{is_numeral}

-- the greatest depth that a bank holds
abbrev pub depth_limit : ℕ
depth_limit = 4000

-- how deep a term is, where the numerals within it are one deep
unfoldable pub tree_depth : Term → ℕ
tree_depth (Variable x) = 1
tree_depth (Function f) = 1
tree_depth (Applied t u) = max (tree_depth t) ((if is_numeral u then 1 else tree_depth u) + 1)

-- how deep a term is: a variable, a numeral and a constant are one deep
abbrev pub depth_of : Term → ℕ
depth_of t = if is_numeral t then 1 else tree_depth t

abbrev pub greatest_depth : List Term → ℕ
greatest_depth [] = 0
greatest_depth (t ∷ ts) = max (depth_of t) (greatest_depth ts)

-- the greatest size that is told
abbrev pub size_limit : ℕ
size_limit = 2 ^ 63

-- how many nodes a term has, where each numeral within it is one
unfoldable pub tree_size : Term → ℕ
tree_size (Variable x) = 1
tree_size (Function f) = 1
tree_size (Applied t u) = tree_size t + (if is_numeral u then 1 else tree_size u)

-- how many nodes a term has: a variable, a numeral and a constant are one
abbrev pub size_of : Term → ℕ
size_of t = if is_numeral t then 1 else tree_size t

abbrev pub total_size : List Term → ℕ
total_size [] = 0
total_size (t ∷ ts) = size_of t + total_size ts
