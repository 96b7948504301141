-- Laws of LITATOM on values, as clauses.
use Rattle.std.specs.Prelude.{List, [], ◌∷◌}
use Rattle.nq_logic.specs.Terms.{Term}
use Rattle.nq_logic.specs.Words.{variable, call0, call1, call2}

-- (EQUAL (LITATOM T) F)
abbrev pub literal_atom_test_of_truth_clause : List Term
literal_atom_test_of_truth_clause = (call2 "EQUAL" (call1 "LITATOM" (call0 "TRUE")) (call0 "FALSE")) ∷ []

-- (EQUAL (LITATOM F) F)
abbrev pub literal_atom_test_of_falsity_clause : List Term
literal_atom_test_of_falsity_clause = (call2 "EQUAL" (call1 "LITATOM" (call0 "FALSE")) (call0 "FALSE")) ∷ []

-- (NOT (LITATOM X)), (EQUAL (LITATOM X) T)
abbrev pub literal_atom_test_of_literal_atom_clause : List Term
literal_atom_test_of_literal_atom_clause = (call1 "NOT" (call1 "LITATOM" (variable "X"))) ∷ (call2 "EQUAL" (call1 "LITATOM" (variable "X")) (call0 "TRUE")) ∷ []

-- (NOT (NUMBERP X)), (EQUAL (LITATOM X) F)
abbrev pub literal_atom_test_of_number_clause : List Term
literal_atom_test_of_number_clause = (call1 "NOT" (call1 "NUMBERP" (variable "X"))) ∷ (call2 "EQUAL" (call1 "LITATOM" (variable "X")) (call0 "FALSE")) ∷ []

-- (NOT (LISTP X)), (EQUAL (LITATOM X) F)
abbrev pub literal_atom_test_of_list_clause : List Term
literal_atom_test_of_list_clause = (call1 "NOT" (call1 "LISTP" (variable "X"))) ∷ (call2 "EQUAL" (call1 "LITATOM" (variable "X")) (call0 "FALSE")) ∷ []

-- (NOT (NEGATIVEP X)), (EQUAL (LITATOM X) F)
abbrev pub literal_atom_test_of_negative_clause : List Term
literal_atom_test_of_negative_clause = (call1 "NOT" (call1 "NEGATIVEP" (variable "X"))) ∷ (call2 "EQUAL" (call1 "LITATOM" (variable "X")) (call0 "FALSE")) ∷ []

-- (NOT (LITATOM X)), X
abbrev pub literal_atom_is_true_clause : List Term
literal_atom_is_true_clause = (call1 "NOT" (call1 "LITATOM" (variable "X"))) ∷ (variable "X") ∷ []

-- (NOT (EQUAL (LITATOM Y) F)), (NOT (EQUAL (LITATOM X) T)), (EQUAL (EQUAL X Y) F)
abbrev pub apart_by_first_literal_atom_clause : List Term
apart_by_first_literal_atom_clause = (call1 "NOT" (call2 "EQUAL" (call1 "LITATOM" (variable "Y")) (call0 "FALSE"))) ∷ (call1 "NOT" (call2 "EQUAL" (call1 "LITATOM" (variable "X")) (call0 "TRUE"))) ∷ (call2 "EQUAL" (call2 "EQUAL" (variable "X") (variable "Y")) (call0 "FALSE")) ∷ []

-- (NOT (EQUAL (LITATOM X) F)), (NOT (EQUAL (LITATOM Y) T)), (EQUAL (EQUAL X Y) F)
abbrev pub apart_by_second_literal_atom_clause : List Term
apart_by_second_literal_atom_clause = (call1 "NOT" (call2 "EQUAL" (call1 "LITATOM" (variable "X")) (call0 "FALSE"))) ∷ (call1 "NOT" (call2 "EQUAL" (call1 "LITATOM" (variable "Y")) (call0 "TRUE"))) ∷ (call2 "EQUAL" (call2 "EQUAL" (variable "X") (variable "Y")) (call0 "FALSE")) ∷ []

-- all of these laws
abbrev pub laws_of_atom_tests : List (List Term)
laws_of_atom_tests = literal_atom_test_of_truth_clause ∷ literal_atom_test_of_falsity_clause ∷ literal_atom_test_of_literal_atom_clause ∷ literal_atom_test_of_number_clause ∷ literal_atom_test_of_list_clause ∷ literal_atom_test_of_negative_clause ∷ literal_atom_is_true_clause ∷ apart_by_first_literal_atom_clause ∷ apart_by_second_literal_atom_clause ∷ []
