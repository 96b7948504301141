-- Laws of LESSP, as clauses.
use Rattle.std.specs.Prelude.{List, [], ◌∷◌}
use Rattle.nq_logic.specs.Terms.{Term}
use Rattle.nq_logic.specs.Words.{variable, call0, call1, call2}

-- (NOT (ZEROP Y)), (EQUAL (LESSP X Y) F)
abbrev pub less_than_zero_clause : List Term
less_than_zero_clause = (call1 "NOT" (call1 "ZEROP" (variable "Y"))) ∷ (call2 "EQUAL" (call2 "LESSP" (variable "X") (variable "Y")) (call0 "FALSE")) ∷ []

-- (ZEROP X), (ZEROP Y), (EQUAL (LESSP X Y) (LESSP (SUB1 X) (SUB1 Y)))
abbrev pub less_of_positives_clause : List Term
less_of_positives_clause = (call1 "ZEROP" (variable "X")) ∷ (call1 "ZEROP" (variable "Y")) ∷ (call2 "EQUAL" (call2 "LESSP" (variable "X") (variable "Y")) (call2 "LESSP" (call1 "SUB1" (variable "X")) (call1 "SUB1" (variable "Y")))) ∷ []

-- (NOT (ZEROP X)), (ZEROP Y), (EQUAL (LESSP X Y) T)
abbrev pub zero_less_than_positive_clause : List Term
zero_less_than_positive_clause = (call1 "NOT" (call1 "ZEROP" (variable "X"))) ∷ (call1 "ZEROP" (variable "Y")) ∷ (call2 "EQUAL" (call2 "LESSP" (variable "X") (variable "Y")) (call0 "TRUE")) ∷ []

-- (NOT (LESSP X X))
abbrev pub less_is_irreflexive_clause : List Term
less_is_irreflexive_clause = (call1 "NOT" (call2 "LESSP" (variable "X") (variable "X"))) ∷ []

-- (EQUAL (LESSP X 0) F)
abbrev pub nothing_less_than_zero_clause : List Term
nothing_less_than_zero_clause = (call2 "EQUAL" (call2 "LESSP" (variable "X") (call0 "ZERO")) (call0 "FALSE")) ∷ []

-- (EQUAL (LESSP (FIX X) (FIX Y)) (LESSP X Y))
abbrev pub less_of_fixes_clause : List Term
less_of_fixes_clause = (call2 "EQUAL" (call2 "LESSP" (call1 "FIX" (variable "X")) (call1 "FIX" (variable "Y"))) (call2 "LESSP" (variable "X") (variable "Y"))) ∷ []

-- (NOT (NUMBERP X)), (NOT (NUMBERP Y)), (EQUAL (LESSP (ADD1 X) (ADD1 Y)) (LESSP X Y))
abbrev pub less_of_add1s_clause : List Term
less_of_add1s_clause = (call1 "NOT" (call1 "NUMBERP" (variable "X"))) ∷ (call1 "NOT" (call1 "NUMBERP" (variable "Y"))) ∷ (call2 "EQUAL" (call2 "LESSP" (call1 "ADD1" (variable "X")) (call1 "ADD1" (variable "Y"))) (call2 "LESSP" (variable "X") (variable "Y"))) ∷ []

-- (EQUAL (LESSP (PLUS X Y) (PLUS X Z)) (LESSP Y Z))
abbrev pub sum_is_monotone_clause : List Term
sum_is_monotone_clause = (call2 "EQUAL" (call2 "LESSP" (call2 "PLUS" (variable "X") (variable "Y")) (call2 "PLUS" (variable "X") (variable "Z"))) (call2 "LESSP" (variable "Y") (variable "Z"))) ∷ []

-- all of these laws
abbrev pub laws_of_less : List (List Term)
laws_of_less = less_than_zero_clause ∷ less_of_positives_clause ∷ zero_less_than_positive_clause ∷ less_is_irreflexive_clause ∷ nothing_less_than_zero_clause ∷ less_of_fixes_clause ∷ less_of_add1s_clause ∷ sum_is_monotone_clause ∷ []
