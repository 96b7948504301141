-- Laws of functions of numbers, by the FIX of their arguments, as clauses.
use Rattle.std.specs.Prelude.{List, [], ◌∷◌}
use Rattle.nq_logic.specs.Terms.{Term}
use Rattle.nq_logic.specs.Words.{variable, call1, call2}

-- (EQUAL (PLUS (FIX X) (FIX Y)) (PLUS X Y))
abbrev pub sum_of_fixes_clause : List Term
sum_of_fixes_clause = (call2 "EQUAL" (call2 "PLUS" (call1 "FIX" (variable "X")) (call1 "FIX" (variable "Y"))) (call2 "PLUS" (variable "X") (variable "Y"))) ∷ []

-- (EQUAL (TIMES X (FIX Y)) (TIMES X Y))
abbrev pub product_with_fix_clause : List Term
product_with_fix_clause = (call2 "EQUAL" (call2 "TIMES" (variable "X") (call1 "FIX" (variable "Y"))) (call2 "TIMES" (variable "X") (variable "Y"))) ∷ []

-- (EQUAL (TIMES (FIX X) (FIX Y)) (TIMES X Y))
abbrev pub product_of_fixes_clause : List Term
product_of_fixes_clause = (call2 "EQUAL" (call2 "TIMES" (call1 "FIX" (variable "X")) (call1 "FIX" (variable "Y"))) (call2 "TIMES" (variable "X") (variable "Y"))) ∷ []

-- (NOT (EQUAL (FIX X) A)), (NOT (EQUAL (FIX Y) B)), (NOT (EQUAL (PLUS A B) C)), (EQUAL (PLUS X Y) C)
abbrev pub sum_by_fixes_clause : List Term
sum_by_fixes_clause = (call1 "NOT" (call2 "EQUAL" (call1 "FIX" (variable "X")) (variable "A"))) ∷ (call1 "NOT" (call2 "EQUAL" (call1 "FIX" (variable "Y")) (variable "B"))) ∷ (call1 "NOT" (call2 "EQUAL" (call2 "PLUS" (variable "A") (variable "B")) (variable "C"))) ∷ (call2 "EQUAL" (call2 "PLUS" (variable "X") (variable "Y")) (variable "C")) ∷ []

-- (NOT (EQUAL (FIX X) A)), (NOT (EQUAL (FIX Y) B)), (NOT (EQUAL (TIMES A B) C)), (EQUAL (TIMES X Y) C)
abbrev pub product_by_fixes_clause : List Term
product_by_fixes_clause = (call1 "NOT" (call2 "EQUAL" (call1 "FIX" (variable "X")) (variable "A"))) ∷ (call1 "NOT" (call2 "EQUAL" (call1 "FIX" (variable "Y")) (variable "B"))) ∷ (call1 "NOT" (call2 "EQUAL" (call2 "TIMES" (variable "A") (variable "B")) (variable "C"))) ∷ (call2 "EQUAL" (call2 "TIMES" (variable "X") (variable "Y")) (variable "C")) ∷ []

-- (NOT (EQUAL (FIX X) A)), (NOT (EQUAL (FIX Y) B)), (NOT (EQUAL (DIFFERENCE A B) C)), (EQUAL (DIFFERENCE X Y) C)
abbrev pub difference_by_fixes_clause : List Term
difference_by_fixes_clause = (call1 "NOT" (call2 "EQUAL" (call1 "FIX" (variable "X")) (variable "A"))) ∷ (call1 "NOT" (call2 "EQUAL" (call1 "FIX" (variable "Y")) (variable "B"))) ∷ (call1 "NOT" (call2 "EQUAL" (call2 "DIFFERENCE" (variable "A") (variable "B")) (variable "C"))) ∷ (call2 "EQUAL" (call2 "DIFFERENCE" (variable "X") (variable "Y")) (variable "C")) ∷ []

-- (NOT (EQUAL (FIX X) A)), (NOT (EQUAL (FIX Y) B)), (NOT (EQUAL (QUOTIENT A B) C)), (EQUAL (QUOTIENT X Y) C)
abbrev pub quotient_by_fixes_clause : List Term
quotient_by_fixes_clause = (call1 "NOT" (call2 "EQUAL" (call1 "FIX" (variable "X")) (variable "A"))) ∷ (call1 "NOT" (call2 "EQUAL" (call1 "FIX" (variable "Y")) (variable "B"))) ∷ (call1 "NOT" (call2 "EQUAL" (call2 "QUOTIENT" (variable "A") (variable "B")) (variable "C"))) ∷ (call2 "EQUAL" (call2 "QUOTIENT" (variable "X") (variable "Y")) (variable "C")) ∷ []

-- (NOT (EQUAL (FIX X) A)), (NOT (EQUAL (FIX Y) B)), (NOT (EQUAL (REMAINDER A B) C)), (EQUAL (REMAINDER X Y) C)
abbrev pub remainder_by_fixes_clause : List Term
remainder_by_fixes_clause = (call1 "NOT" (call2 "EQUAL" (call1 "FIX" (variable "X")) (variable "A"))) ∷ (call1 "NOT" (call2 "EQUAL" (call1 "FIX" (variable "Y")) (variable "B"))) ∷ (call1 "NOT" (call2 "EQUAL" (call2 "REMAINDER" (variable "A") (variable "B")) (variable "C"))) ∷ (call2 "EQUAL" (call2 "REMAINDER" (variable "X") (variable "Y")) (variable "C")) ∷ []

-- (NOT (EQUAL (FIX X) A)), (NOT (EQUAL (FIX Y) B)), (NOT (EQUAL (LESSP A B) C)), (EQUAL (LESSP X Y) C)
abbrev pub less_by_fixes_clause : List Term
less_by_fixes_clause = (call1 "NOT" (call2 "EQUAL" (call1 "FIX" (variable "X")) (variable "A"))) ∷ (call1 "NOT" (call2 "EQUAL" (call1 "FIX" (variable "Y")) (variable "B"))) ∷ (call1 "NOT" (call2 "EQUAL" (call2 "LESSP" (variable "A") (variable "B")) (variable "C"))) ∷ (call2 "EQUAL" (call2 "LESSP" (variable "X") (variable "Y")) (variable "C")) ∷ []

-- all of these laws
abbrev pub laws_of_by_fixes : List (List Term)
laws_of_by_fixes = sum_of_fixes_clause ∷ product_with_fix_clause ∷ product_of_fixes_clause ∷ sum_by_fixes_clause ∷ product_by_fixes_clause ∷ difference_by_fixes_clause ∷ quotient_by_fixes_clause ∷ remainder_by_fixes_clause ∷ less_by_fixes_clause ∷ []
