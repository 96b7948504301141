-- Laws of TIMES with PLUS, as clauses.
use Rattle.std.specs.Prelude.{List, [], ◌∷◌}
use Rattle.nq_logic.specs.Terms.{Term}
use Rattle.nq_logic.specs.Words.{variable, call0, call1, call2}

-- (EQUAL (TIMES X 0) 0)
abbrev pub product_with_zero_clause : List Term
product_with_zero_clause = (call2 "EQUAL" (call2 "TIMES" (variable "X") (call0 "ZERO")) (call0 "ZERO")) ∷ []

-- (EQUAL (PLUS (ADD1 X) Y) (ADD1 (PLUS X Y)))
abbrev pub sum_of_add1_and_any_clause : List Term
sum_of_add1_and_any_clause = (call2 "EQUAL" (call2 "PLUS" (call1 "ADD1" (variable "X")) (variable "Y")) (call1 "ADD1" (call2 "PLUS" (variable "X") (variable "Y")))) ∷ []

-- (EQUAL (TIMES X (ADD1 0)) (FIX X))
abbrev pub product_with_one_clause : List Term
product_with_one_clause = (call2 "EQUAL" (call2 "TIMES" (variable "X") (call1 "ADD1" (call0 "ZERO"))) (call1 "FIX" (variable "X"))) ∷ []

-- (EQUAL (TIMES X (ADD1 Y)) (PLUS X (TIMES X Y)))
abbrev pub product_with_add1_clause : List Term
product_with_add1_clause = (call2 "EQUAL" (call2 "TIMES" (variable "X") (call1 "ADD1" (variable "Y"))) (call2 "PLUS" (variable "X") (call2 "TIMES" (variable "X") (variable "Y")))) ∷ []

-- (ZEROP Y), (EQUAL (TIMES X Y) (PLUS X (TIMES X (SUB1 Y))))
abbrev pub product_with_positive_clause : List Term
product_with_positive_clause = (call1 "ZEROP" (variable "Y")) ∷ (call2 "EQUAL" (call2 "TIMES" (variable "X") (variable "Y")) (call2 "PLUS" (variable "X") (call2 "TIMES" (variable "X") (call1 "SUB1" (variable "Y"))))) ∷ []

-- (NOT (ZEROP Y)), (EQUAL (TIMES X Y) 0)
abbrev pub product_with_no_positive_clause : List Term
product_with_no_positive_clause = (call1 "NOT" (call1 "ZEROP" (variable "Y"))) ∷ (call2 "EQUAL" (call2 "TIMES" (variable "X") (variable "Y")) (call0 "ZERO")) ∷ []

-- (EQUAL (TIMES X Y) (TIMES Y X))
abbrev pub product_commutes_clause : List Term
product_commutes_clause = (call2 "EQUAL" (call2 "TIMES" (variable "X") (variable "Y")) (call2 "TIMES" (variable "Y") (variable "X"))) ∷ []

-- (EQUAL (TIMES (PLUS X Y) Z) (PLUS (TIMES X Z) (TIMES Y Z)))
abbrev pub sum_times_clause : List Term
sum_times_clause = (call2 "EQUAL" (call2 "TIMES" (call2 "PLUS" (variable "X") (variable "Y")) (variable "Z")) (call2 "PLUS" (call2 "TIMES" (variable "X") (variable "Z")) (call2 "TIMES" (variable "Y") (variable "Z")))) ∷ []

-- (EQUAL (TIMES (TIMES X Y) Z) (TIMES X (TIMES Y Z)))
abbrev pub product_associates_clause : List Term
product_associates_clause = (call2 "EQUAL" (call2 "TIMES" (call2 "TIMES" (variable "X") (variable "Y")) (variable "Z")) (call2 "TIMES" (variable "X") (call2 "TIMES" (variable "Y") (variable "Z")))) ∷ []

-- all of these laws
abbrev pub laws_of_products : List (List Term)
laws_of_products = product_with_zero_clause ∷ sum_of_add1_and_any_clause ∷ product_with_one_clause ∷ product_with_add1_clause ∷ product_with_positive_clause ∷ product_with_no_positive_clause ∷ product_commutes_clause ∷ sum_times_clause ∷ product_associates_clause ∷ []
