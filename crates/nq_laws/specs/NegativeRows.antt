-- Laws of the shell of negatives: the rows of its axioms that are no law under another name, as clauses.
use Rattle.std.specs.Prelude.{List, [], ◌∷◌}
use Rattle.nq_logic.specs.Terms.{Term}
use Rattle.nq_logic.specs.Words.{variable, call0, call1, call2, call3}

-- (NOT (NEGATIVEP X)), (NOT (NUMBERP X))
abbrev pub negative_row_kinds_differ_from_number_clause : List Term
negative_row_kinds_differ_from_number_clause = (call1 "NOT" (call1 "NEGATIVEP" (variable "X"))) ∷ (call1 "NOT" (call1 "NUMBERP" (variable "X"))) ∷ []

-- (NOT (NEGATIVEP X)), (NOT (LISTP X))
abbrev pub negative_row_kinds_differ_from_pair_clause : List Term
negative_row_kinds_differ_from_pair_clause = (call1 "NOT" (call1 "NEGATIVEP" (variable "X"))) ∷ (call1 "NOT" (call1 "LISTP" (variable "X"))) ∷ []

-- (NOT (NEGATIVEP X)), (NOT (LITATOM X))
abbrev pub negative_row_kinds_differ_from_atom_clause : List Term
negative_row_kinds_differ_from_atom_clause = (call1 "NOT" (call1 "NEGATIVEP" (variable "X"))) ∷ (call1 "NOT" (call1 "LITATOM" (variable "X"))) ∷ []

-- (NOT (NEGATIVEP T))
abbrev pub negative_row_truth_is_none_clause : List Term
negative_row_truth_is_none_clause = (call1 "NOT" (call1 "NEGATIVEP" (call0 "TRUE"))) ∷ []

-- (NOT (NEGATIVEP F))
abbrev pub negative_row_falsity_is_none_clause : List Term
negative_row_falsity_is_none_clause = (call1 "NOT" (call1 "NEGATIVEP" (call0 "FALSE"))) ∷ []

-- (EQUAL (NEGATIVEP X) T), (EQUAL (NEGATIVEP X) F)
abbrev pub negative_row_recognizer_is_truth_value_clause : List Term
negative_row_recognizer_is_truth_value_clause = (call2 "EQUAL" (call1 "NEGATIVEP" (variable "X")) (call0 "TRUE")) ∷ (call2 "EQUAL" (call1 "NEGATIVEP" (variable "X")) (call0 "FALSE")) ∷ []

-- (NEGATIVEP X), (EQUAL (NEGATIVE-GUTS X) 0)
abbrev pub negative_row_part_of_other_clause : List Term
negative_row_part_of_other_clause = (call1 "NEGATIVEP" (variable "X")) ∷ (call2 "EQUAL" (call1 "NEGATIVE-GUTS" (variable "X")) (call0 "ZERO")) ∷ []

-- (NUMBERP X1), (EQUAL (MINUS X1) (MINUS 0))
abbrev pub negative_row_wrong_part_clause : List Term
negative_row_wrong_part_clause = (call1 "NUMBERP" (variable "X1")) ∷ (call2 "EQUAL" (call1 "MINUS" (variable "X1")) (call1 "MINUS" (call0 "ZERO"))) ∷ []

-- (NUMBERP X1), (EQUAL (NEGATIVE-GUTS (MINUS X1)) 0)
abbrev pub negative_row_wrong_part_of_made_clause : List Term
negative_row_wrong_part_of_made_clause = (call1 "NUMBERP" (variable "X1")) ∷ (call2 "EQUAL" (call1 "NEGATIVE-GUTS" (call1 "MINUS" (variable "X1"))) (call0 "ZERO")) ∷ []

-- (NOT (NEGATIVEP X)), (EQUAL (MINUS (NEGATIVE-GUTS X)) X)
abbrev pub negative_row_remade_is_same_clause : List Term
negative_row_remade_is_same_clause = (call1 "NOT" (call1 "NEGATIVEP" (variable "X"))) ∷ (call2 "EQUAL" (call1 "MINUS" (call1 "NEGATIVE-GUTS" (variable "X"))) (variable "X")) ∷ []

-- (EQUAL (COUNT (MINUS X1)) (ADD1 (IF (NUMBERP X1) (COUNT X1) 0)))
abbrev pub negative_row_size_of_made_clause : List Term
negative_row_size_of_made_clause = (call2 "EQUAL" (call1 "COUNT" (call1 "MINUS" (variable "X1"))) (call1 "ADD1" (call3 "IF" (call1 "NUMBERP" (variable "X1")) (call1 "COUNT" (variable "X1")) (call0 "ZERO")))) ∷ []

-- all of these laws
abbrev pub laws_of_negative_rows : List (List Term)
laws_of_negative_rows = negative_row_kinds_differ_from_number_clause ∷ negative_row_kinds_differ_from_pair_clause ∷ negative_row_kinds_differ_from_atom_clause ∷ negative_row_truth_is_none_clause ∷ negative_row_falsity_is_none_clause ∷ negative_row_recognizer_is_truth_value_clause ∷ negative_row_part_of_other_clause ∷ negative_row_wrong_part_clause ∷ negative_row_wrong_part_of_made_clause ∷ negative_row_remade_is_same_clause ∷ negative_row_size_of_made_clause ∷ []
