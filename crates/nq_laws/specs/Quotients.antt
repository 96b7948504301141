-- Laws of DIFFERENCE, QUOTIENT and REMAINDER, as clauses.
use Rattle.std.specs.Prelude.{List, [], ◌∷◌}
use Rattle.nq_logic.specs.Terms.{Term}
use Rattle.nq_logic.specs.Words.{variable, call0, call1, call2}

-- (EQUAL (DIFFERENCE 0 Y) 0)
abbrev pub difference_from_zero_value_clause : List Term
difference_from_zero_value_clause = (call2 "EQUAL" (call2 "DIFFERENCE" (call0 "ZERO") (variable "Y")) (call0 "ZERO")) ∷ []

-- (EQUAL (DIFFERENCE (ADD1 A) 0) (ADD1 A))
abbrev pub difference_with_zero_value_clause : List Term
difference_with_zero_value_clause = (call2 "EQUAL" (call2 "DIFFERENCE" (call1 "ADD1" (variable "A")) (call0 "ZERO")) (call1 "ADD1" (variable "A"))) ∷ []

-- (NOT (NUMBERP A)), (NOT (NUMBERP B)), (NOT (EQUAL (DIFFERENCE A B) C)), (EQUAL (DIFFERENCE (ADD1 A) (ADD1 B)) C)
abbrev pub difference_step_clause : List Term
difference_step_clause = (call1 "NOT" (call1 "NUMBERP" (variable "A"))) ∷ (call1 "NOT" (call1 "NUMBERP" (variable "B"))) ∷ (call1 "NOT" (call2 "EQUAL" (call2 "DIFFERENCE" (variable "A") (variable "B")) (variable "C"))) ∷ (call2 "EQUAL" (call2 "DIFFERENCE" (call1 "ADD1" (variable "A")) (call1 "ADD1" (variable "B"))) (variable "C")) ∷ []

-- (EQUAL (QUOTIENT X 0) 0)
abbrev pub quotient_by_zero_clause : List Term
quotient_by_zero_clause = (call2 "EQUAL" (call2 "QUOTIENT" (variable "X") (call0 "ZERO")) (call0 "ZERO")) ∷ []

-- (NOT (EQUAL (LESSP X (ADD1 B)) T)), (EQUAL (QUOTIENT X (ADD1 B)) 0)
abbrev pub quotient_of_less_clause : List Term
quotient_of_less_clause = (call1 "NOT" (call2 "EQUAL" (call2 "LESSP" (variable "X") (call1 "ADD1" (variable "B"))) (call0 "TRUE"))) ∷ (call2 "EQUAL" (call2 "QUOTIENT" (variable "X") (call1 "ADD1" (variable "B"))) (call0 "ZERO")) ∷ []

-- (NOT (EQUAL (QUOTIENT C (ADD1 B)) D)), (NOT (EQUAL (DIFFERENCE A (ADD1 B)) C)), (NOT (EQUAL (LESSP A (ADD1 B)) F)), (EQUAL (QUOTIENT A (ADD1 B)) (ADD1 D))
abbrev pub quotient_step_clause : List Term
quotient_step_clause = (call1 "NOT" (call2 "EQUAL" (call2 "QUOTIENT" (variable "C") (call1 "ADD1" (variable "B"))) (variable "D"))) ∷ (call1 "NOT" (call2 "EQUAL" (call2 "DIFFERENCE" (variable "A") (call1 "ADD1" (variable "B"))) (variable "C"))) ∷ (call1 "NOT" (call2 "EQUAL" (call2 "LESSP" (variable "A") (call1 "ADD1" (variable "B"))) (call0 "FALSE"))) ∷ (call2 "EQUAL" (call2 "QUOTIENT" (variable "A") (call1 "ADD1" (variable "B"))) (call1 "ADD1" (variable "D"))) ∷ []

-- (NOT (NUMBERP X)), (EQUAL (REMAINDER X 0) X)
abbrev pub remainder_by_zero_clause : List Term
remainder_by_zero_clause = (call1 "NOT" (call1 "NUMBERP" (variable "X"))) ∷ (call2 "EQUAL" (call2 "REMAINDER" (variable "X") (call0 "ZERO")) (variable "X")) ∷ []

-- (NOT (NUMBERP X)), (NOT (EQUAL (LESSP X (ADD1 B)) T)), (EQUAL (REMAINDER X (ADD1 B)) X)
abbrev pub remainder_of_less_clause : List Term
remainder_of_less_clause = (call1 "NOT" (call1 "NUMBERP" (variable "X"))) ∷ (call1 "NOT" (call2 "EQUAL" (call2 "LESSP" (variable "X") (call1 "ADD1" (variable "B"))) (call0 "TRUE"))) ∷ (call2 "EQUAL" (call2 "REMAINDER" (variable "X") (call1 "ADD1" (variable "B"))) (variable "X")) ∷ []

-- (NOT (EQUAL (REMAINDER C (ADD1 B)) D)), (NOT (EQUAL (DIFFERENCE A (ADD1 B)) C)), (NOT (EQUAL (LESSP A (ADD1 B)) F)), (EQUAL (REMAINDER A (ADD1 B)) D)
abbrev pub remainder_step_clause : List Term
remainder_step_clause = (call1 "NOT" (call2 "EQUAL" (call2 "REMAINDER" (variable "C") (call1 "ADD1" (variable "B"))) (variable "D"))) ∷ (call1 "NOT" (call2 "EQUAL" (call2 "DIFFERENCE" (variable "A") (call1 "ADD1" (variable "B"))) (variable "C"))) ∷ (call1 "NOT" (call2 "EQUAL" (call2 "LESSP" (variable "A") (call1 "ADD1" (variable "B"))) (call0 "FALSE"))) ∷ (call2 "EQUAL" (call2 "REMAINDER" (variable "A") (call1 "ADD1" (variable "B"))) (variable "D")) ∷ []

-- all of these laws
abbrev pub laws_of_quotients : List (List Term)
laws_of_quotients = difference_from_zero_value_clause ∷ difference_with_zero_value_clause ∷ difference_step_clause ∷ quotient_by_zero_clause ∷ quotient_of_less_clause ∷ quotient_step_clause ∷ remainder_by_zero_clause ∷ remainder_of_less_clause ∷ remainder_step_clause ∷ []
