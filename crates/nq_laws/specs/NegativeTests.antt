-- Laws of NEGATIVEP on values, as clauses.
use Rattle.std.specs.Prelude.{List, [], ◌∷◌}
use Rattle.nq_logic.specs.Terms.{Term}
use Rattle.nq_logic.specs.Words.{variable, call0, call1, call2}

-- (EQUAL (NEGATIVEP T) F)
abbrev pub negative_test_of_truth_clause : List Term
negative_test_of_truth_clause = (call2 "EQUAL" (call1 "NEGATIVEP" (call0 "TRUE")) (call0 "FALSE")) ∷ []

-- (EQUAL (NEGATIVEP F) F)
abbrev pub negative_test_of_falsity_clause : List Term
negative_test_of_falsity_clause = (call2 "EQUAL" (call1 "NEGATIVEP" (call0 "FALSE")) (call0 "FALSE")) ∷ []

-- (NOT (NEGATIVEP X)), (EQUAL (NEGATIVEP X) T)
abbrev pub negative_test_of_negative_clause : List Term
negative_test_of_negative_clause = (call1 "NOT" (call1 "NEGATIVEP" (variable "X"))) ∷ (call2 "EQUAL" (call1 "NEGATIVEP" (variable "X")) (call0 "TRUE")) ∷ []

-- (NOT (NUMBERP X)), (EQUAL (NEGATIVEP X) F)
abbrev pub negative_test_of_number_clause : List Term
negative_test_of_number_clause = (call1 "NOT" (call1 "NUMBERP" (variable "X"))) ∷ (call2 "EQUAL" (call1 "NEGATIVEP" (variable "X")) (call0 "FALSE")) ∷ []

-- (NOT (LISTP X)), (EQUAL (NEGATIVEP X) F)
abbrev pub negative_test_of_list_clause : List Term
negative_test_of_list_clause = (call1 "NOT" (call1 "LISTP" (variable "X"))) ∷ (call2 "EQUAL" (call1 "NEGATIVEP" (variable "X")) (call0 "FALSE")) ∷ []

-- (NOT (LITATOM X)), (EQUAL (NEGATIVEP X) F)
abbrev pub negative_test_of_literal_atom_clause : List Term
negative_test_of_literal_atom_clause = (call1 "NOT" (call1 "LITATOM" (variable "X"))) ∷ (call2 "EQUAL" (call1 "NEGATIVEP" (variable "X")) (call0 "FALSE")) ∷ []

-- (NOT (NEGATIVEP X)), X
abbrev pub negative_is_true_clause : List Term
negative_is_true_clause = (call1 "NOT" (call1 "NEGATIVEP" (variable "X"))) ∷ (variable "X") ∷ []

-- (NOT (EQUAL (NEGATIVEP Y) F)), (NOT (EQUAL (NEGATIVEP X) T)), (EQUAL (EQUAL X Y) F)
abbrev pub apart_by_first_negative_clause : List Term
apart_by_first_negative_clause = (call1 "NOT" (call2 "EQUAL" (call1 "NEGATIVEP" (variable "Y")) (call0 "FALSE"))) ∷ (call1 "NOT" (call2 "EQUAL" (call1 "NEGATIVEP" (variable "X")) (call0 "TRUE"))) ∷ (call2 "EQUAL" (call2 "EQUAL" (variable "X") (variable "Y")) (call0 "FALSE")) ∷ []

-- (NOT (EQUAL (NEGATIVEP X) F)), (NOT (EQUAL (NEGATIVEP Y) T)), (EQUAL (EQUAL X Y) F)
abbrev pub apart_by_second_negative_clause : List Term
apart_by_second_negative_clause = (call1 "NOT" (call2 "EQUAL" (call1 "NEGATIVEP" (variable "X")) (call0 "FALSE"))) ∷ (call1 "NOT" (call2 "EQUAL" (call1 "NEGATIVEP" (variable "Y")) (call0 "TRUE"))) ∷ (call2 "EQUAL" (call2 "EQUAL" (variable "X") (variable "Y")) (call0 "FALSE")) ∷ []

-- (LISTP (CONS X1 X2))
abbrev pub pair_is_list_clause : List Term
pair_is_list_clause = (call1 "LISTP" (call2 "CONS" (variable "X1") (variable "X2"))) ∷ []

-- (LITATOM (PACK X1))
abbrev pub atom_is_literal_atom_clause : List Term
atom_is_literal_atom_clause = (call1 "LITATOM" (call1 "PACK" (variable "X1"))) ∷ []

-- (NEGATIVEP (MINUS X1))
abbrev pub negative_is_negative_clause : List Term
negative_is_negative_clause = (call1 "NEGATIVEP" (call1 "MINUS" (variable "X1"))) ∷ []

-- all of these laws
abbrev pub laws_of_negative_tests : List (List Term)
laws_of_negative_tests = negative_test_of_truth_clause ∷ negative_test_of_falsity_clause ∷ negative_test_of_negative_clause ∷ negative_test_of_number_clause ∷ negative_test_of_list_clause ∷ negative_test_of_literal_atom_clause ∷ negative_is_true_clause ∷ apart_by_first_negative_clause ∷ apart_by_second_negative_clause ∷ pair_is_list_clause ∷ atom_is_literal_atom_clause ∷ negative_is_negative_clause ∷ []
