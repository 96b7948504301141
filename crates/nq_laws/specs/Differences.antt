-- Laws of DIFFERENCE of a sum, as clauses.
use Rattle.std.specs.Prelude.{List, [], ◌∷◌}
use Rattle.nq_logic.specs.Terms.{Term}
use Rattle.nq_logic.specs.Words.{variable, call0, call1, call2}

-- (EQUAL (FIX (PLUS X Y)) (PLUS X Y))
abbrev pub fix_of_sum_clause : List Term
fix_of_sum_clause = (call2 "EQUAL" (call1 "FIX" (call2 "PLUS" (variable "X") (variable "Y"))) (call2 "PLUS" (variable "X") (variable "Y"))) ∷ []

-- (EQUAL (PLUS X Y) (PLUS X (PLUS Y 0)))
abbrev pub sum_with_one_zero_more_clause : List Term
sum_with_one_zero_more_clause = (call2 "EQUAL" (call2 "PLUS" (variable "X") (variable "Y")) (call2 "PLUS" (variable "X") (call2 "PLUS" (variable "Y") (call0 "ZERO")))) ∷ []

-- (ZEROP Y), (ZEROP X), (EQUAL (DIFFERENCE X Y) (DIFFERENCE (SUB1 X) (SUB1 Y)))
abbrev pub difference_of_positives_clause : List Term
difference_of_positives_clause = (call1 "ZEROP" (variable "Y")) ∷ (call1 "ZEROP" (variable "X")) ∷ (call2 "EQUAL" (call2 "DIFFERENCE" (variable "X") (variable "Y")) (call2 "DIFFERENCE" (call1 "SUB1" (variable "X")) (call1 "SUB1" (variable "Y")))) ∷ []

-- (ZEROP Y), (EQUAL (DIFFERENCE (ADD1 (PLUS X Z)) Y) (DIFFERENCE (PLUS X Z) (SUB1 Y)))
abbrev pub difference_of_add1_clause : List Term
difference_of_add1_clause = (call1 "ZEROP" (variable "Y")) ∷ (call2 "EQUAL" (call2 "DIFFERENCE" (call1 "ADD1" (call2 "PLUS" (variable "X") (variable "Z"))) (variable "Y")) (call2 "DIFFERENCE" (call2 "PLUS" (variable "X") (variable "Z")) (call1 "SUB1" (variable "Y")))) ∷ []

-- (NOT (ZEROP X)), (EQUAL (DIFFERENCE (FIX Y) X) (FIX Y))
abbrev pub difference_of_fix_with_zero_clause : List Term
difference_of_fix_with_zero_clause = (call1 "NOT" (call1 "ZEROP" (variable "X"))) ∷ (call2 "EQUAL" (call2 "DIFFERENCE" (call1 "FIX" (variable "Y")) (variable "X")) (call1 "FIX" (variable "Y"))) ∷ []

-- (EQUAL (DIFFERENCE (PLUS X Y) X) (FIX Y))
abbrev pub difference_of_sum_clause : List Term
difference_of_sum_clause = (call2 "EQUAL" (call2 "DIFFERENCE" (call2 "PLUS" (variable "X") (variable "Y")) (variable "X")) (call1 "FIX" (variable "Y"))) ∷ []

-- all of these laws
abbrev pub laws_of_differences : List (List Term)
laws_of_differences = fix_of_sum_clause ∷ sum_with_one_zero_more_clause ∷ difference_of_positives_clause ∷ difference_of_add1_clause ∷ difference_of_fix_with_zero_clause ∷ difference_of_sum_clause ∷ []
