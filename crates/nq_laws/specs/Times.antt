-- Laws of TIMES, as clauses.
use Rattle.std.specs.Prelude.{List, [], ◌∷◌}
use Rattle.nq_logic.specs.Terms.{Term}
use Rattle.nq_logic.specs.Words.{variable, call0, call1, call2}

-- (NOT (ZEROP X)), (EQUAL (TIMES X Y) 0)
abbrev pub product_at_zero_clause : List Term
product_at_zero_clause = (call1 "NOT" (call1 "ZEROP" (variable "X"))) ∷ (call2 "EQUAL" (call2 "TIMES" (variable "X") (variable "Y")) (call0 "ZERO")) ∷ []

-- (ZEROP X), (EQUAL (TIMES X Y) (PLUS Y (TIMES (SUB1 X) Y)))
abbrev pub product_at_positive_clause : List Term
product_at_positive_clause = (call1 "ZEROP" (variable "X")) ∷ (call2 "EQUAL" (call2 "TIMES" (variable "X") (variable "Y")) (call2 "PLUS" (variable "Y") (call2 "TIMES" (call1 "SUB1" (variable "X")) (variable "Y")))) ∷ []

-- (EQUAL (PLUS X (PLUS Y Z)) (PLUS Y (PLUS X Z)))
abbrev pub sum_exchanges_clause : List Term
sum_exchanges_clause = (call2 "EQUAL" (call2 "PLUS" (variable "X") (call2 "PLUS" (variable "Y") (variable "Z"))) (call2 "PLUS" (variable "Y") (call2 "PLUS" (variable "X") (variable "Z")))) ∷ []

-- (EQUAL (TIMES X (PLUS Y Z)) (PLUS (TIMES X Y) (TIMES X Z)))
abbrev pub product_distributes_clause : List Term
product_distributes_clause = (call2 "EQUAL" (call2 "TIMES" (variable "X") (call2 "PLUS" (variable "Y") (variable "Z"))) (call2 "PLUS" (call2 "TIMES" (variable "X") (variable "Y")) (call2 "TIMES" (variable "X") (variable "Z")))) ∷ []

-- (EQUAL (TIMES 0 Y) 0)
abbrev pub product_of_zero_clause : List Term
product_of_zero_clause = (call2 "EQUAL" (call2 "TIMES" (call0 "ZERO") (variable "Y")) (call0 "ZERO")) ∷ []

-- (NOT (NUMBERP A)), (NOT (EQUAL (PLUS B C) D)), (NOT (EQUAL (TIMES A B) C)), (EQUAL (TIMES (ADD1 A) B) D)
abbrev pub product_step_clause : List Term
product_step_clause = (call1 "NOT" (call1 "NUMBERP" (variable "A"))) ∷ (call1 "NOT" (call2 "EQUAL" (call2 "PLUS" (variable "B") (variable "C")) (variable "D"))) ∷ (call1 "NOT" (call2 "EQUAL" (call2 "TIMES" (variable "A") (variable "B")) (variable "C"))) ∷ (call2 "EQUAL" (call2 "TIMES" (call1 "ADD1" (variable "A")) (variable "B")) (variable "D")) ∷ []

-- all of these laws
abbrev pub laws_of_times : List (List Term)
laws_of_times = product_at_zero_clause ∷ product_at_positive_clause ∷ sum_exchanges_clause ∷ product_distributes_clause ∷ product_of_zero_clause ∷ product_step_clause ∷ []
