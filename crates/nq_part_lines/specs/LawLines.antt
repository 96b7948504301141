-- Clauses of laws, and how deep the terms may be that stand in place of their variables.
use Rattle.std.specs.Prelude.{◌≡◌, ℕ, Bool, true, ◌&&◌, nat_le, List, []}
use Rattle.std.specs.List.{list_all}
use Rattle.nq_logic.specs.Terms.{Term}
use Rattle.nq_logic.specs.Ground.{symbols_of}
use Rattle.nq_logic.specs.Sizes.{depth_of}
use Rattle.nq_proof.specs.Logs.{are_terms}

-- the greatest depth of a law's literals
abbrev pub law_depth : ℕ
law_depth = 10

-- the greatest depth of a term in place of a law's variable
abbrev pub term_room : ℕ
term_room = 3000

-- whether the clause is over ground functions, and no literal is deep
unfoldable pub is_law : List Term → Bool
is_law c = are_terms (symbols_of []) c && list_all (λ t. nat_le (depth_of t) law_depth) c

abbrev pub IsLaw : List Term → Type 0
IsLaw c = is_law c ≡ true
