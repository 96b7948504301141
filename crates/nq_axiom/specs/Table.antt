-- The rows of the ground symbols, their literals made by steps.
use Rattle.std.specs.Prelude.{◌<◌, List, map, reverse, All}
use Rattle.nq_bank.specs.GroundNames.{ground_count}
use Rattle.nq_bank.specs.Soundness.{ground_text}
use Rattle.nq_proof.specs.Clauses.{Clause}
use Rattle.nq_proof.specs.Rows.{GroundRow}
use Rattle.nq_steps.specs.Steps.{stack_of, StepStands}
use Rattle.nq_axiom.specs.Steps.{ground_content}
use Rattle.nq_axiom.specs.declared.ground_rows.AxiomRow.{AxiomRow}

abbrev pub literals_of : AxiomRow → Clause
literals_of r = reverse (stack_of ground_content r.literals.now)

-- the row, with terms in place of steps
abbrev pub row_of : AxiomRow → GroundRow
row_of r = record { name = ground_text r.name; row = r.row; literals = literals_of r }

abbrev pub rows_of : List AxiomRow → List GroundRow
rows_of rows = map row_of rows

-- the row uses no name but the ground names
pub record IsGroundRow (r : AxiomRow) : Type 0 where
  pub name : r.name.0 < ground_count
  pub literals : All (StepStands ground_content) r.literals.now
