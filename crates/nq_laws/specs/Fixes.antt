-- Laws of DIFFERENCE, QUOTIENT and REMAINDER, which take another value as 0, as clauses.
use Rattle.std.specs.Prelude.{List, [], ◌∷◌}
use Rattle.nq_logic.specs.Terms.{Term}
use Rattle.nq_logic.specs.Words.{variable, call0, call1, call2}

-- (NOT (ZEROP X)), (EQUAL (DIFFERENCE X Y) 0)
abbrev pub difference_of_zero_clause : List Term
difference_of_zero_clause = (call1 "NOT" (call1 "ZEROP" (variable "X"))) ∷ (call2 "EQUAL" (call2 "DIFFERENCE" (variable "X") (variable "Y")) (call0 "ZERO")) ∷ []

-- (NOT (ZEROP Y)), (ZEROP X), (EQUAL (DIFFERENCE X Y) X)
abbrev pub difference_with_zero_clause : List Term
difference_with_zero_clause = (call1 "NOT" (call1 "ZEROP" (variable "Y"))) ∷ (call1 "ZEROP" (variable "X")) ∷ (call2 "EQUAL" (call2 "DIFFERENCE" (variable "X") (variable "Y")) (variable "X")) ∷ []

-- (EQUAL (DIFFERENCE (FIX X) (FIX Y)) (DIFFERENCE X Y))
abbrev pub difference_of_fixes_clause : List Term
difference_of_fixes_clause = (call2 "EQUAL" (call2 "DIFFERENCE" (call1 "FIX" (variable "X")) (call1 "FIX" (variable "Y"))) (call2 "DIFFERENCE" (variable "X") (variable "Y"))) ∷ []

-- (NOT (ZEROP Y)), (EQUAL (QUOTIENT X Y) 0)
abbrev pub quotient_where_zero_clause : List Term
quotient_where_zero_clause = (call1 "NOT" (call1 "ZEROP" (variable "Y"))) ∷ (call2 "EQUAL" (call2 "QUOTIENT" (variable "X") (variable "Y")) (call0 "ZERO")) ∷ []

-- (NOT (ZEROP X)), (EQUAL (QUOTIENT X Y) 0)
abbrev pub quotient_of_zero_clause : List Term
quotient_of_zero_clause = (call1 "NOT" (call1 "ZEROP" (variable "X"))) ∷ (call2 "EQUAL" (call2 "QUOTIENT" (variable "X") (variable "Y")) (call0 "ZERO")) ∷ []

-- (EQUAL (QUOTIENT (FIX X) (FIX Y)) (QUOTIENT X Y))
abbrev pub quotient_of_fixes_clause : List Term
quotient_of_fixes_clause = (call2 "EQUAL" (call2 "QUOTIENT" (call1 "FIX" (variable "X")) (call1 "FIX" (variable "Y"))) (call2 "QUOTIENT" (variable "X") (variable "Y"))) ∷ []

-- (NOT (ZEROP Y)), (EQUAL (REMAINDER X Y) (FIX X))
abbrev pub remainder_where_zero_clause : List Term
remainder_where_zero_clause = (call1 "NOT" (call1 "ZEROP" (variable "Y"))) ∷ (call2 "EQUAL" (call2 "REMAINDER" (variable "X") (variable "Y")) (call1 "FIX" (variable "X"))) ∷ []

-- (NOT (ZEROP X)), (EQUAL (REMAINDER X Y) 0)
abbrev pub remainder_of_zero_clause : List Term
remainder_of_zero_clause = (call1 "NOT" (call1 "ZEROP" (variable "X"))) ∷ (call2 "EQUAL" (call2 "REMAINDER" (variable "X") (variable "Y")) (call0 "ZERO")) ∷ []

-- (EQUAL (REMAINDER (FIX X) (FIX Y)) (REMAINDER X Y))
abbrev pub remainder_of_fixes_clause : List Term
remainder_of_fixes_clause = (call2 "EQUAL" (call2 "REMAINDER" (call1 "FIX" (variable "X")) (call1 "FIX" (variable "Y"))) (call2 "REMAINDER" (variable "X") (variable "Y"))) ∷ []

-- all of these laws
abbrev pub laws_of_fixes : List (List Term)
laws_of_fixes = difference_of_zero_clause ∷ difference_with_zero_clause ∷ difference_of_fixes_clause ∷ quotient_where_zero_clause ∷ quotient_of_zero_clause ∷ quotient_of_fixes_clause ∷ remainder_where_zero_clause ∷ remainder_of_zero_clause ∷ remainder_of_fixes_clause ∷ []
