-- The arities of functions, by their names.
use Rattle.std.specs.Prelude.{ℕ, suc, bytes_eq, if◌then◌else◌, Option, None, List, [], ◌∷◌}
use Rattle.nq_logic.specs.Terms.{Name}

-- what is at the place of a name among names that stand from this place on
abbrev pub arity_from : ℕ → List Name → (ℕ → Option ℕ) → Name → Option ℕ
arity_from i [] at x = None
arity_from i (n ∷ names) at x = if bytes_eq x n then at i else arity_from (suc i) names at x

abbrev pub arity_over : List Name → (ℕ → Option ℕ) → Name → Option ℕ
arity_over names at x = arity_from 0 names at x
