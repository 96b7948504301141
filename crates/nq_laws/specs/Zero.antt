-- Laws of 0, ADD1, SUB1, NUMBERP, ZEROP and FIX, as clauses.
use Rattle.std.specs.Prelude.{List, [], ◌∷◌}
use Rattle.nq_logic.specs.Terms.{Term}
use Rattle.nq_logic.specs.Words.{variable, call0, call1, call2}

-- (NUMBERP (ADD1 X1))
abbrev pub add1_is_number_clause : List Term
add1_is_number_clause = (call1 "NUMBERP" (call1 "ADD1" (variable "X1"))) ∷ []

-- (NUMBERP 0)
abbrev pub zero_is_number_clause : List Term
zero_is_number_clause = (call1 "NUMBERP" (call0 "ZERO")) ∷ []

-- (ZEROP 0)
abbrev pub zero_is_zero_clause : List Term
zero_is_zero_clause = (call1 "ZEROP" (call0 "ZERO")) ∷ []

-- (EQUAL (ZEROP (ADD1 X)) F)
abbrev pub add1_is_not_zero_clause : List Term
add1_is_not_zero_clause = (call2 "EQUAL" (call1 "ZEROP" (call1 "ADD1" (variable "X"))) (call0 "FALSE")) ∷ []

-- (ZEROP X), (NUMBERP X)
abbrev pub not_zero_is_number_clause : List Term
not_zero_is_number_clause = (call1 "ZEROP" (variable "X")) ∷ (call1 "NUMBERP" (variable "X")) ∷ []

-- (NOT (NUMBERP X)), (NOT (ZEROP X)), (EQUAL X 0)
abbrev pub zero_or_not_number_clause : List Term
zero_or_not_number_clause = (call1 "NOT" (call1 "NUMBERP" (variable "X"))) ∷ (call1 "NOT" (call1 "ZEROP" (variable "X"))) ∷ (call2 "EQUAL" (variable "X") (call0 "ZERO")) ∷ []

-- (ZEROP X), (NOT (EQUAL X 0))
abbrev pub positive_is_not_zero_clause : List Term
positive_is_not_zero_clause = (call1 "ZEROP" (variable "X")) ∷ (call1 "NOT" (call2 "EQUAL" (variable "X") (call0 "ZERO"))) ∷ []

-- (NOT (NUMBERP X)), (EQUAL (FIX X) X)
abbrev pub fix_of_number_clause : List Term
fix_of_number_clause = (call1 "NOT" (call1 "NUMBERP" (variable "X"))) ∷ (call2 "EQUAL" (call1 "FIX" (variable "X")) (variable "X")) ∷ []

-- (NUMBERP X), (EQUAL (FIX X) 0)
abbrev pub fix_of_other_clause : List Term
fix_of_other_clause = (call1 "NUMBERP" (variable "X")) ∷ (call2 "EQUAL" (call1 "FIX" (variable "X")) (call0 "ZERO")) ∷ []

-- (NOT (ZEROP X)), (EQUAL (FIX X) 0)
abbrev pub fix_of_zero_clause : List Term
fix_of_zero_clause = (call1 "NOT" (call1 "ZEROP" (variable "X"))) ∷ (call2 "EQUAL" (call1 "FIX" (variable "X")) (call0 "ZERO")) ∷ []

-- (ZEROP X), (EQUAL (FIX X) X)
abbrev pub fix_of_positive_clause : List Term
fix_of_positive_clause = (call1 "ZEROP" (variable "X")) ∷ (call2 "EQUAL" (call1 "FIX" (variable "X")) (variable "X")) ∷ []

-- (ZEROP X), (EQUAL (ADD1 (SUB1 X)) X)
abbrev pub add1_of_sub1_clause : List Term
add1_of_sub1_clause = (call1 "ZEROP" (variable "X")) ∷ (call2 "EQUAL" (call1 "ADD1" (call1 "SUB1" (variable "X"))) (variable "X")) ∷ []

-- (NOT (ZEROP X)), (EQUAL (SUB1 X) 0)
abbrev pub sub1_of_zero_clause : List Term
sub1_of_zero_clause = (call1 "NOT" (call1 "ZEROP" (variable "X"))) ∷ (call2 "EQUAL" (call1 "SUB1" (variable "X")) (call0 "ZERO")) ∷ []

-- (NUMBERP (SUB1 X))
abbrev pub sub1_is_number_clause : List Term
sub1_is_number_clause = (call1 "NUMBERP" (call1 "SUB1" (variable "X"))) ∷ []

-- (EQUAL (FIX (SUB1 X)) (SUB1 X))
abbrev pub fix_of_sub1_clause : List Term
fix_of_sub1_clause = (call2 "EQUAL" (call1 "FIX" (call1 "SUB1" (variable "X"))) (call1 "SUB1" (variable "X"))) ∷ []

-- all of these laws
abbrev pub laws_of_zero : List (List Term)
laws_of_zero = add1_is_number_clause ∷ zero_is_number_clause ∷ zero_is_zero_clause ∷ add1_is_not_zero_clause ∷ not_zero_is_number_clause ∷ zero_or_not_number_clause ∷ positive_is_not_zero_clause ∷ fix_of_number_clause ∷ fix_of_other_clause ∷ fix_of_zero_clause ∷ fix_of_positive_clause ∷ add1_of_sub1_clause ∷ sub1_of_zero_clause ∷ sub1_is_number_clause ∷ fix_of_sub1_clause ∷ []
