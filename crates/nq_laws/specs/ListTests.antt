-- Laws of LISTP on values, as clauses.
use Rattle.std.specs.Prelude.{List, [], ◌∷◌}
use Rattle.nq_logic.specs.Terms.{Term}
use Rattle.nq_logic.specs.Words.{variable, call0, call1, call2}

-- (EQUAL (LISTP T) F)
abbrev pub list_test_of_truth_clause : List Term
list_test_of_truth_clause = (call2 "EQUAL" (call1 "LISTP" (call0 "TRUE")) (call0 "FALSE")) ∷ []

-- (EQUAL (LISTP F) F)
abbrev pub list_test_of_falsity_clause : List Term
list_test_of_falsity_clause = (call2 "EQUAL" (call1 "LISTP" (call0 "FALSE")) (call0 "FALSE")) ∷ []

-- (NOT (LISTP X)), (EQUAL (LISTP X) T)
abbrev pub list_test_of_list_clause : List Term
list_test_of_list_clause = (call1 "NOT" (call1 "LISTP" (variable "X"))) ∷ (call2 "EQUAL" (call1 "LISTP" (variable "X")) (call0 "TRUE")) ∷ []

-- (NOT (NUMBERP X)), (EQUAL (LISTP X) F)
abbrev pub list_test_of_number_clause : List Term
list_test_of_number_clause = (call1 "NOT" (call1 "NUMBERP" (variable "X"))) ∷ (call2 "EQUAL" (call1 "LISTP" (variable "X")) (call0 "FALSE")) ∷ []

-- (NOT (LITATOM X)), (EQUAL (LISTP X) F)
abbrev pub list_test_of_literal_atom_clause : List Term
list_test_of_literal_atom_clause = (call1 "NOT" (call1 "LITATOM" (variable "X"))) ∷ (call2 "EQUAL" (call1 "LISTP" (variable "X")) (call0 "FALSE")) ∷ []

-- (NOT (NEGATIVEP X)), (EQUAL (LISTP X) F)
abbrev pub list_test_of_negative_clause : List Term
list_test_of_negative_clause = (call1 "NOT" (call1 "NEGATIVEP" (variable "X"))) ∷ (call2 "EQUAL" (call1 "LISTP" (variable "X")) (call0 "FALSE")) ∷ []

-- (NOT (LISTP X)), X
abbrev pub list_is_true_clause : List Term
list_is_true_clause = (call1 "NOT" (call1 "LISTP" (variable "X"))) ∷ (variable "X") ∷ []

-- (NOT (EQUAL (LISTP Y) F)), (NOT (EQUAL (LISTP X) T)), (EQUAL (EQUAL X Y) F)
abbrev pub apart_by_first_list_clause : List Term
apart_by_first_list_clause = (call1 "NOT" (call2 "EQUAL" (call1 "LISTP" (variable "Y")) (call0 "FALSE"))) ∷ (call1 "NOT" (call2 "EQUAL" (call1 "LISTP" (variable "X")) (call0 "TRUE"))) ∷ (call2 "EQUAL" (call2 "EQUAL" (variable "X") (variable "Y")) (call0 "FALSE")) ∷ []

-- (NOT (EQUAL (LISTP X) F)), (NOT (EQUAL (LISTP Y) T)), (EQUAL (EQUAL X Y) F)
abbrev pub apart_by_second_list_clause : List Term
apart_by_second_list_clause = (call1 "NOT" (call2 "EQUAL" (call1 "LISTP" (variable "X")) (call0 "FALSE"))) ∷ (call1 "NOT" (call2 "EQUAL" (call1 "LISTP" (variable "Y")) (call0 "TRUE"))) ∷ (call2 "EQUAL" (call2 "EQUAL" (variable "X") (variable "Y")) (call0 "FALSE")) ∷ []

-- all of these laws
abbrev pub laws_of_list_tests : List (List Term)
laws_of_list_tests = list_test_of_truth_clause ∷ list_test_of_falsity_clause ∷ list_test_of_list_clause ∷ list_test_of_number_clause ∷ list_test_of_literal_atom_clause ∷ list_test_of_negative_clause ∷ list_is_true_clause ∷ apart_by_first_list_clause ∷ apart_by_second_list_clause ∷ []
