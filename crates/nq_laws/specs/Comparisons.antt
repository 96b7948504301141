-- Laws of functions that are defined by a test of their arguments, as clauses.
use Rattle.std.specs.Prelude.{List, [], ◌∷◌}
use Rattle.nq_logic.specs.Terms.{Term}
use Rattle.nq_logic.specs.Words.{variable, call0, call1, call2}

-- (NOT (EQUAL (EQUAL X T) C)), (EQUAL (TRUEP X) C)
abbrev pub truth_test_clause : List Term
truth_test_clause = (call1 "NOT" (call2 "EQUAL" (call2 "EQUAL" (variable "X") (call0 "TRUE")) (variable "C"))) ∷ (call2 "EQUAL" (call1 "TRUEP" (variable "X")) (variable "C")) ∷ []

-- (NOT (EQUAL (EQUAL X F) C)), (EQUAL (FALSEP X) C)
abbrev pub falsity_test_clause : List Term
falsity_test_clause = (call1 "NOT" (call2 "EQUAL" (call2 "EQUAL" (variable "X") (call0 "FALSE")) (variable "C"))) ∷ (call2 "EQUAL" (call1 "FALSEP" (variable "X")) (variable "C")) ∷ []

-- (NOT (EQUAL (LISTP X) T)), (EQUAL (NLISTP X) F)
abbrev pub no_list_test_of_list_clause : List Term
no_list_test_of_list_clause = (call1 "NOT" (call2 "EQUAL" (call1 "LISTP" (variable "X")) (call0 "TRUE"))) ∷ (call2 "EQUAL" (call1 "NLISTP" (variable "X")) (call0 "FALSE")) ∷ []

-- (NOT (EQUAL (LISTP X) F)), (EQUAL (NLISTP X) T)
abbrev pub no_list_test_of_other_clause : List Term
no_list_test_of_other_clause = (call1 "NOT" (call2 "EQUAL" (call1 "LISTP" (variable "X")) (call0 "FALSE"))) ∷ (call2 "EQUAL" (call1 "NLISTP" (variable "X")) (call0 "TRUE")) ∷ []

-- (NOT (EQUAL (LESSP Y X) C)), (EQUAL (GREATERP X Y) C)
abbrev pub greater_by_less_clause : List Term
greater_by_less_clause = (call1 "NOT" (call2 "EQUAL" (call2 "LESSP" (variable "Y") (variable "X")) (variable "C"))) ∷ (call2 "EQUAL" (call2 "GREATERP" (variable "X") (variable "Y")) (variable "C")) ∷ []

-- (NOT (EQUAL (LESSP Y X) T)), (EQUAL (LEQ X Y) F)
abbrev pub at_most_where_less_clause : List Term
at_most_where_less_clause = (call1 "NOT" (call2 "EQUAL" (call2 "LESSP" (variable "Y") (variable "X")) (call0 "TRUE"))) ∷ (call2 "EQUAL" (call2 "LEQ" (variable "X") (variable "Y")) (call0 "FALSE")) ∷ []

-- (NOT (EQUAL (LESSP Y X) F)), (EQUAL (LEQ X Y) T)
abbrev pub at_most_where_not_less_clause : List Term
at_most_where_not_less_clause = (call1 "NOT" (call2 "EQUAL" (call2 "LESSP" (variable "Y") (variable "X")) (call0 "FALSE"))) ∷ (call2 "EQUAL" (call2 "LEQ" (variable "X") (variable "Y")) (call0 "TRUE")) ∷ []

-- (NOT (EQUAL (LESSP X Y) T)), (EQUAL (GEQ X Y) F)
abbrev pub at_least_where_less_clause : List Term
at_least_where_less_clause = (call1 "NOT" (call2 "EQUAL" (call2 "LESSP" (variable "X") (variable "Y")) (call0 "TRUE"))) ∷ (call2 "EQUAL" (call2 "GEQ" (variable "X") (variable "Y")) (call0 "FALSE")) ∷ []

-- (NOT (EQUAL (LESSP X Y) F)), (EQUAL (GEQ X Y) T)
abbrev pub at_least_where_not_less_clause : List Term
at_least_where_not_less_clause = (call1 "NOT" (call2 "EQUAL" (call2 "LESSP" (variable "X") (variable "Y")) (call0 "FALSE"))) ∷ (call2 "EQUAL" (call2 "GEQ" (variable "X") (variable "Y")) (call0 "TRUE")) ∷ []

-- (NOT (EQUAL (LESSP X Y) T)), (EQUAL (MAX X Y) Y)
abbrev pub greatest_where_less_clause : List Term
greatest_where_less_clause = (call1 "NOT" (call2 "EQUAL" (call2 "LESSP" (variable "X") (variable "Y")) (call0 "TRUE"))) ∷ (call2 "EQUAL" (call2 "MAX" (variable "X") (variable "Y")) (variable "Y")) ∷ []

-- (NOT (EQUAL (FIX X) A)), (NOT (EQUAL (LESSP X Y) F)), (EQUAL (MAX X Y) A)
abbrev pub greatest_where_not_less_clause : List Term
greatest_where_not_less_clause = (call1 "NOT" (call2 "EQUAL" (call1 "FIX" (variable "X")) (variable "A"))) ∷ (call1 "NOT" (call2 "EQUAL" (call2 "LESSP" (variable "X") (variable "Y")) (call0 "FALSE"))) ∷ (call2 "EQUAL" (call2 "MAX" (variable "X") (variable "Y")) (variable "A")) ∷ []

-- all of these laws
abbrev pub laws_of_comparisons : List (List Term)
laws_of_comparisons = truth_test_clause ∷ falsity_test_clause ∷ no_list_test_of_list_clause ∷ no_list_test_of_other_clause ∷ greater_by_less_clause ∷ at_most_where_less_clause ∷ at_most_where_not_less_clause ∷ at_least_where_less_clause ∷ at_least_where_not_less_clause ∷ greatest_where_less_clause ∷ greatest_where_not_less_clause ∷ []
