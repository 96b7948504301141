-- Where the axiom of a name is looked for, in turn.
use Rattle.std.specs.Prelude.{ℕ, [], List, Option}
use Rattle.nq_logic.specs.Terms.{Name}
use Rattle.nq_logic.specs.Histories.{Shell}
use Rattle.nq_proof.specs.Clauses.{Clause}
use Rattle.nq_proof.specs.Rows.{first_found, ground_rows, row_found, shell_found, without_part}
use Rattle.nq_axiom.specs.Openings.{opening_in}

-- the row of a ground symbol, or else the opening of the definition that has the name
abbrev pub row_without_part : Name → ℕ → Option Clause → Option Clause
row_without_part name row definition = first_found (row_found name row ground_rows) (opening_in row definition)

-- and else the row of the shell that has the name
abbrev pub axiom_among : List Shell → Option Clause → Name → ℕ → ℕ → Option Clause
axiom_among shells definition name row part = first_found (without_part part (row_without_part name row definition)) (shell_found name row part [] shells)
