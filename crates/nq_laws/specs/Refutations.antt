-- Laws of bounds that a negative form refutes, as clauses.
use Rattle.std.specs.Prelude.{List, [], ◌∷◌}
use Rattle.nq_logic.specs.Terms.{Term}
use Rattle.nq_logic.specs.Words.{variable, call0, call1, call2}

-- (NOT (LESSP A B)), (NOT (LESSP (PLUS (PLUS B 0) 0) (PLUS (PLUS 0 A) (ADD1 0))))
abbrev pub bound_of_not_less_clause : List Term
bound_of_not_less_clause = (call1 "NOT" (call2 "LESSP" (variable "A") (variable "B"))) ∷ (call1 "NOT" (call2 "LESSP" (call2 "PLUS" (call2 "PLUS" (variable "B") (call0 "ZERO")) (call0 "ZERO")) (call2 "PLUS" (call2 "PLUS" (call0 "ZERO") (variable "A")) (call1 "ADD1" (call0 "ZERO"))))) ∷ []

-- (NOT (EQUAL (PLUS A (PLUS (ADD1 C) W)) (PLUS B P))), (NOT (EQUAL P 0)), (LESSP A B)
abbrev pub negative_is_less_clause : List Term
negative_is_less_clause = (call1 "NOT" (call2 "EQUAL" (call2 "PLUS" (variable "A") (call2 "PLUS" (call1 "ADD1" (variable "C")) (variable "W"))) (call2 "PLUS" (variable "B") (variable "P")))) ∷ (call1 "NOT" (call2 "EQUAL" (variable "P") (call0 "ZERO"))) ∷ (call2 "LESSP" (variable "A") (variable "B")) ∷ []

-- (NOT (EQUAL W 0)), (EQUAL (PLUS (TIMES 0 E) W) 0)
abbrev pub no_atom_is_zero_clause : List Term
no_atom_is_zero_clause = (call1 "NOT" (call2 "EQUAL" (variable "W") (call0 "ZERO"))) ∷ (call2 "EQUAL" (call2 "PLUS" (call2 "TIMES" (call0 "ZERO") (variable "E")) (variable "W")) (call0 "ZERO")) ∷ []

-- (NOT (EQUAL W 0)), (EQUAL (PLUS 0 W) 0)
abbrev pub no_constant_is_zero_clause : List Term
no_constant_is_zero_clause = (call1 "NOT" (call2 "EQUAL" (variable "W") (call0 "ZERO"))) ∷ (call2 "EQUAL" (call2 "PLUS" (call0 "ZERO") (variable "W")) (call0 "ZERO")) ∷ []

-- all of these laws
abbrev pub laws_of_refutations : List (List Term)
laws_of_refutations = bound_of_not_less_clause ∷ negative_is_less_clause ∷ no_atom_is_zero_clause ∷ no_constant_is_zero_clause ∷ []
