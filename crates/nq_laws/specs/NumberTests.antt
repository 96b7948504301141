-- Laws of NUMBERP on values, as clauses.
use Rattle.std.specs.Prelude.{List, [], ◌∷◌}
use Rattle.nq_logic.specs.Terms.{Term}
use Rattle.nq_logic.specs.Words.{variable, call0, call1, call2}

-- (EQUAL (NUMBERP T) F)
abbrev pub number_test_of_truth_clause : List Term
number_test_of_truth_clause = (call2 "EQUAL" (call1 "NUMBERP" (call0 "TRUE")) (call0 "FALSE")) ∷ []

-- (EQUAL (NUMBERP F) F)
abbrev pub number_test_of_falsity_clause : List Term
number_test_of_falsity_clause = (call2 "EQUAL" (call1 "NUMBERP" (call0 "FALSE")) (call0 "FALSE")) ∷ []

-- (NOT (NUMBERP X)), (EQUAL (NUMBERP X) T)
abbrev pub number_test_of_number_clause : List Term
number_test_of_number_clause = (call1 "NOT" (call1 "NUMBERP" (variable "X"))) ∷ (call2 "EQUAL" (call1 "NUMBERP" (variable "X")) (call0 "TRUE")) ∷ []

-- (NOT (LISTP X)), (EQUAL (NUMBERP X) F)
abbrev pub number_test_of_list_clause : List Term
number_test_of_list_clause = (call1 "NOT" (call1 "LISTP" (variable "X"))) ∷ (call2 "EQUAL" (call1 "NUMBERP" (variable "X")) (call0 "FALSE")) ∷ []

-- (NOT (LITATOM X)), (EQUAL (NUMBERP X) F)
abbrev pub number_test_of_literal_atom_clause : List Term
number_test_of_literal_atom_clause = (call1 "NOT" (call1 "LITATOM" (variable "X"))) ∷ (call2 "EQUAL" (call1 "NUMBERP" (variable "X")) (call0 "FALSE")) ∷ []

-- (NOT (NEGATIVEP X)), (EQUAL (NUMBERP X) F)
abbrev pub number_test_of_negative_clause : List Term
number_test_of_negative_clause = (call1 "NOT" (call1 "NEGATIVEP" (variable "X"))) ∷ (call2 "EQUAL" (call1 "NUMBERP" (variable "X")) (call0 "FALSE")) ∷ []

-- (NOT (NUMBERP X)), X
abbrev pub number_is_true_clause : List Term
number_is_true_clause = (call1 "NOT" (call1 "NUMBERP" (variable "X"))) ∷ (variable "X") ∷ []

-- (NOT (EQUAL (NUMBERP Y) F)), (NOT (EQUAL (NUMBERP X) T)), (EQUAL (EQUAL X Y) F)
abbrev pub apart_by_first_number_clause : List Term
apart_by_first_number_clause = (call1 "NOT" (call2 "EQUAL" (call1 "NUMBERP" (variable "Y")) (call0 "FALSE"))) ∷ (call1 "NOT" (call2 "EQUAL" (call1 "NUMBERP" (variable "X")) (call0 "TRUE"))) ∷ (call2 "EQUAL" (call2 "EQUAL" (variable "X") (variable "Y")) (call0 "FALSE")) ∷ []

-- (NOT (EQUAL (NUMBERP X) F)), (NOT (EQUAL (NUMBERP Y) T)), (EQUAL (EQUAL X Y) F)
abbrev pub apart_by_second_number_clause : List Term
apart_by_second_number_clause = (call1 "NOT" (call2 "EQUAL" (call1 "NUMBERP" (variable "X")) (call0 "FALSE"))) ∷ (call1 "NOT" (call2 "EQUAL" (call1 "NUMBERP" (variable "Y")) (call0 "TRUE"))) ∷ (call2 "EQUAL" (call2 "EQUAL" (variable "X") (variable "Y")) (call0 "FALSE")) ∷ []

-- all of these laws
abbrev pub laws_of_number_tests : List (List Term)
laws_of_number_tests = number_test_of_truth_clause ∷ number_test_of_falsity_clause ∷ number_test_of_number_clause ∷ number_test_of_list_clause ∷ number_test_of_literal_atom_clause ∷ number_test_of_negative_clause ∷ number_is_true_clause ∷ apart_by_first_number_clause ∷ apart_by_second_number_clause ∷ []
