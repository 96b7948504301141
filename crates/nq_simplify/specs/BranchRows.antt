-- The axioms of IF, and their instances.
use Rattle.std.specs.Prelude.{ℕ, Bool, true, false, List, [], ◌∷◌, codes}
use Rattle.nq_logic.specs.Terms.{Term}
use Rattle.nq_logic.specs.Words.{not_term, if_term, equal_term}
use Rattle.nq_logic.specs.Ground.{x_term, y_term, z_term}
use Rattle.nq_bank.specs.Content.{NamesText}
use Rattle.nq_kernel.specs.declared.work.Work.{Work}
use Rattle.nq_kernel.specs.Growing.{LineHolds}
use Rattle.nq_simplify.specs.declared.rows.IfRows.{IfRows}

-- the row for an IF whose test is true or false
abbrev pub row_number : Bool → ℕ
row_number true = 2
row_number false = 1

abbrev pub if_row : Bool → List Term
if_row true = not_term x_term ∷ equal_term (if_term x_term y_term z_term) y_term ∷ []
if_row false = x_term ∷ equal_term (if_term x_term y_term z_term) z_term ∷ []

-- what a row says of three terms: the equation, and the test or its NOT
abbrev pub row_at : Bool → Term → Term → Term → List Term
row_at true p x y = equal_term (if_term p x y) x ∷ not_term p ∷ []
row_at false p x y = equal_term (if_term p x y) y ∷ p ∷ []

-- the lines of the two axioms stand, and their variables are X, Y and Z
pub record RowsStand (work : Work) (r : IfRows) : Type 0 where
  pub x : NamesText work.bank r.names.x (codes "X")
  pub y : NamesText work.bank r.names.y (codes "Y")
  pub z : NamesText work.bank r.names.z (codes "Z")
  pub first : LineHolds work r.first (if_row true)
  pub second : LineHolds work r.second (if_row false)
