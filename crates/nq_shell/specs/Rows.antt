-- Rows of the table of shell axioms, as the program puts them.
use Rattle.std.specs.Prelude.{List, [], ◌∷◌, Bool, true, false, reverse, Option, Some, None}
use Rattle.nq_logic.specs.Terms.{Term, Function}
use Rattle.nq_logic.specs.Words.{equal_term}
use Rattle.nq_logic.specs.Histories.{Shell, Part}
use Rattle.nq_proof.specs.Clauses.{Clause}
use Rattle.nq_proof.specs.Rows.{base_row, accessed_by, default_of}

-- the part of the base is the default
abbrev pub base_part_row : Shell → Part → Option Clause
base_part_row s part = base_row 0 (λ b. equal_term (accessed_by part (Function b)) (default_of part) ∷ []) s.base

-- the literals that were put on the stack, where there is a row
abbrev pub drafted : Bool → List Term → Option Clause
drafted false ts = None
drafted true ts = Some (reverse ts)
