-- The names of the table of values, and rows by their symbols.
use Rattle.std.specs.Prelude.{◌≡◌, ℕ, ◌<◌, nat_lt, Bool, true, ◌&&◌, bytes_eq, List, [], ◌∷◌, ◌++◌, map, codes}
use Rattle.nq_bank.specs.declared.node.Sym.{Sym}
use Rattle.nq_bank.specs.GroundNames.{ground_count}
use Rattle.nq_bank.specs.Soundness.{ground_text}
use Rattle.nq_proof.specs.Values.{rows_of_one, rows_of_two, rows_of_three}
use Rattle.nq_value.specs.declared.row.Row.{Row}
use Rattle.nq_value.specs.RowNames.{row_name}

-- the names of the functions that have rows
abbrev pub table_names : List (List ℕ)
table_names = map (λ r. codes r.0) rows_of_one ++ (map (λ r. codes r.0) rows_of_two ++ map (λ r. codes r.0) rows_of_three)

abbrev pub names_of : List (Sym × Row) → List (List ℕ)
names_of rows = map (λ r. ground_text r.0) rows

-- the row stands under the symbol of its name
abbrev pub IsNamedRow : Sym × Row → Type 0
IsNamedRow r = (r.0.0 < ground_count) × (ground_text r.0 ≡ row_name r.1)

-- the same as a test of all rows
abbrev pub are_named : List (Sym × Row) → Bool
are_named [] = true
are_named (r ∷ rows) = nat_lt r.0.0 ground_count && bytes_eq (ground_text r.0) (row_name r.1) && are_named rows
