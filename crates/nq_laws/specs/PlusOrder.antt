-- Laws of the order of terms in a PLUS, as clauses.
use Rattle.std.specs.Prelude.{List, [], ◌∷◌}
use Rattle.nq_logic.specs.Terms.{Term}
use Rattle.nq_logic.specs.Words.{variable, call0, call1, call2}

-- (NOT (ZEROP Y)), (EQUAL (PLUS X Y) (FIX X))
abbrev pub sum_with_no_positive_clause : List Term
sum_with_no_positive_clause = (call1 "NOT" (call1 "ZEROP" (variable "Y"))) ∷ (call2 "EQUAL" (call2 "PLUS" (variable "X") (variable "Y")) (call1 "FIX" (variable "X"))) ∷ []

-- (ZEROP Y), (EQUAL (PLUS X Y) (ADD1 (PLUS X (SUB1 Y))))
abbrev pub sum_with_positive_clause : List Term
sum_with_positive_clause = (call1 "ZEROP" (variable "Y")) ∷ (call2 "EQUAL" (call2 "PLUS" (variable "X") (variable "Y")) (call1 "ADD1" (call2 "PLUS" (variable "X") (call1 "SUB1" (variable "Y"))))) ∷ []

-- (EQUAL (PLUS X Y) (PLUS Y X))
abbrev pub sum_commutes_clause : List Term
sum_commutes_clause = (call2 "EQUAL" (call2 "PLUS" (variable "X") (variable "Y")) (call2 "PLUS" (variable "Y") (variable "X"))) ∷ []

-- (NOT (NUMBERP X)), (EQUAL (PLUS (ADD1 X) Y) (ADD1 (PLUS X Y)))
abbrev pub sum_of_add1_clause : List Term
sum_of_add1_clause = (call1 "NOT" (call1 "NUMBERP" (variable "X"))) ∷ (call2 "EQUAL" (call2 "PLUS" (call1 "ADD1" (variable "X")) (variable "Y")) (call1 "ADD1" (call2 "PLUS" (variable "X") (variable "Y")))) ∷ []

-- (EQUAL (PLUS (FIX X) Y) (PLUS X Y))
abbrev pub sum_of_fix_clause : List Term
sum_of_fix_clause = (call2 "EQUAL" (call2 "PLUS" (call1 "FIX" (variable "X")) (variable "Y")) (call2 "PLUS" (variable "X") (variable "Y"))) ∷ []

-- (EQUAL (PLUS (PLUS X Y) Z) (PLUS X (PLUS Y Z)))
abbrev pub sum_associates_clause : List Term
sum_associates_clause = (call2 "EQUAL" (call2 "PLUS" (call2 "PLUS" (variable "X") (variable "Y")) (variable "Z")) (call2 "PLUS" (variable "X") (call2 "PLUS" (variable "Y") (variable "Z")))) ∷ []

-- (NOT (NUMBERP B)), (EQUAL (PLUS 0 B) B)
abbrev pub sum_of_zero_and_number_clause : List Term
sum_of_zero_and_number_clause = (call1 "NOT" (call1 "NUMBERP" (variable "B"))) ∷ (call2 "EQUAL" (call2 "PLUS" (call0 "ZERO") (variable "B")) (variable "B")) ∷ []

-- (NOT (NUMBERP A)), (NOT (EQUAL (PLUS A B) C)), (EQUAL (PLUS (ADD1 A) B) (ADD1 C))
abbrev pub sum_step_clause : List Term
sum_step_clause = (call1 "NOT" (call1 "NUMBERP" (variable "A"))) ∷ (call1 "NOT" (call2 "EQUAL" (call2 "PLUS" (variable "A") (variable "B")) (variable "C"))) ∷ (call2 "EQUAL" (call2 "PLUS" (call1 "ADD1" (variable "A")) (variable "B")) (call1 "ADD1" (variable "C"))) ∷ []

-- all of these laws
abbrev pub laws_of_plus_order : List (List Term)
laws_of_plus_order = sum_with_no_positive_clause ∷ sum_with_positive_clause ∷ sum_commutes_clause ∷ sum_of_add1_clause ∷ sum_of_fix_clause ∷ sum_associates_clause ∷ sum_of_zero_and_number_clause ∷ sum_step_clause ∷ []
