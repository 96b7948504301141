-- Laws of PLUS step by step, as clauses.
use Rattle.std.specs.Prelude.{List, [], ◌∷◌}
use Rattle.nq_logic.specs.Terms.{Term}
use Rattle.nq_logic.specs.Words.{variable, call0, call1, call2}

-- (NUMBERP (PLUS X Y))
abbrev pub sum_is_number_clause : List Term
sum_is_number_clause = (call1 "NUMBERP" (call2 "PLUS" (variable "X") (variable "Y"))) ∷ []

-- (NOT (ZEROP X)), (EQUAL (PLUS X Y) (FIX Y))
abbrev pub sum_at_zero_clause : List Term
sum_at_zero_clause = (call1 "NOT" (call1 "ZEROP" (variable "X"))) ∷ (call2 "EQUAL" (call2 "PLUS" (variable "X") (variable "Y")) (call1 "FIX" (variable "Y"))) ∷ []

-- (ZEROP X), (EQUAL (PLUS X Y) (ADD1 (PLUS (SUB1 X) Y)))
abbrev pub sum_at_positive_clause : List Term
sum_at_positive_clause = (call1 "ZEROP" (variable "X")) ∷ (call2 "EQUAL" (call2 "PLUS" (variable "X") (variable "Y")) (call1 "ADD1" (call2 "PLUS" (call1 "SUB1" (variable "X")) (variable "Y")))) ∷ []

-- (EQUAL (PLUS X 0) (FIX X))
abbrev pub sum_with_zero_clause : List Term
sum_with_zero_clause = (call2 "EQUAL" (call2 "PLUS" (variable "X") (call0 "ZERO")) (call1 "FIX" (variable "X"))) ∷ []

-- (EQUAL (ADD1 (FIX Y)) (ADD1 Y))
abbrev pub add1_of_fix_clause : List Term
add1_of_fix_clause = (call2 "EQUAL" (call1 "ADD1" (call1 "FIX" (variable "Y"))) (call1 "ADD1" (variable "Y"))) ∷ []

-- (EQUAL (FIX (ADD1 X)) (ADD1 X))
abbrev pub fix_of_add1_clause : List Term
fix_of_add1_clause = (call2 "EQUAL" (call1 "FIX" (call1 "ADD1" (variable "X"))) (call1 "ADD1" (variable "X"))) ∷ []

-- (EQUAL (PLUS X (ADD1 Y)) (ADD1 (PLUS X Y)))
abbrev pub sum_with_add1_clause : List Term
sum_with_add1_clause = (call2 "EQUAL" (call2 "PLUS" (variable "X") (call1 "ADD1" (variable "Y"))) (call1 "ADD1" (call2 "PLUS" (variable "X") (variable "Y")))) ∷ []

-- (NUMBERP (FIX X))
abbrev pub fix_is_number_clause : List Term
fix_is_number_clause = (call1 "NUMBERP" (call1 "FIX" (variable "X"))) ∷ []

-- (EQUAL (PLUS X (FIX Y)) (PLUS X Y))
abbrev pub sum_with_fix_clause : List Term
sum_with_fix_clause = (call2 "EQUAL" (call2 "PLUS" (variable "X") (call1 "FIX" (variable "Y"))) (call2 "PLUS" (variable "X") (variable "Y"))) ∷ []

-- all of these laws
abbrev pub laws_of_plus : List (List Term)
laws_of_plus = sum_is_number_clause ∷ sum_at_zero_clause ∷ sum_at_positive_clause ∷ sum_with_zero_clause ∷ add1_of_fix_clause ∷ fix_of_add1_clause ∷ sum_with_add1_clause ∷ fix_is_number_clause ∷ sum_with_fix_clause ∷ []
