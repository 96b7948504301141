-- Laws of the tests under which a part is smaller, each in another spelling, as clauses.
use Rattle.std.specs.Prelude.{List, [], ◌∷◌}
use Rattle.nq_logic.specs.Terms.{Term}
use Rattle.nq_logic.specs.Words.{variable, call0, call1, call2}

-- (NOT (NOT (LISTP X))), (NOT (NOT (NLISTP X)))
abbrev pub list_by_no_atom_clause : List Term
list_by_no_atom_clause = (call1 "NOT" (call1 "NOT" (call1 "LISTP" (variable "X")))) ∷ (call1 "NOT" (call1 "NOT" (call1 "NLISTP" (variable "X")))) ∷ []

-- (NOT (EQUAL X Y)), (NOT (NOT (EQUAL Y X)))
abbrev pub equation_by_turned_clause : List Term
equation_by_turned_clause = (call1 "NOT" (call2 "EQUAL" (variable "X") (variable "Y"))) ∷ (call1 "NOT" (call1 "NOT" (call2 "EQUAL" (variable "Y") (variable "X")))) ∷ []

-- (NOT (NOT (NUMBERP X))), (NOT (NOT (ZEROP X)))
abbrev pub number_by_no_zero_clause : List Term
number_by_no_zero_clause = (call1 "NOT" (call1 "NOT" (call1 "NUMBERP" (variable "X")))) ∷ (call1 "NOT" (call1 "NOT" (call1 "ZEROP" (variable "X")))) ∷ []

-- (NOT (EQUAL X 0)), (NOT (NOT (ZEROP X)))
abbrev pub no_zero_by_test_clause : List Term
no_zero_by_test_clause = (call1 "NOT" (call2 "EQUAL" (variable "X") (call0 "ZERO"))) ∷ (call1 "NOT" (call1 "NOT" (call1 "ZEROP" (variable "X")))) ∷ []

-- all of these laws
abbrev pub laws_of_spellings : List (List Term)
laws_of_spellings = list_by_no_atom_clause ∷ equation_by_turned_clause ∷ number_by_no_zero_clause ∷ no_zero_by_test_clause ∷ []
