-- The clause that VALUE gives.
use Rattle.std.specs.Prelude.{[], ◌∷◌, Option, Some}
use Rattle.nq_logic.specs.Terms.{Term}
use Rattle.nq_logic.specs.Words.{equal_term}
use Rattle.nq_proof.specs.Clauses.{Clause}
use Rattle.nq_proof.specs.Values.{value_of}
use Rattle.nq_proof.specs.Rules.{given}

-- the equation of a call on values and its value by the table; none where it has none
abbrev pub value_equation : Term → Option Clause
value_equation t = given (value_of t) (λ v. Some (equal_term t v ∷ []))
