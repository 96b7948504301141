-- Laws of the shell of pairs: the rows of its axioms that are no law under another name, as clauses.
use Rattle.std.specs.Prelude.{List, [], ◌∷◌}
use Rattle.nq_logic.specs.Terms.{Term}
use Rattle.nq_logic.specs.Words.{variable, call0, call1, call2, call3}

-- (NOT (LISTP X)), (NOT (NUMBERP X))
abbrev pub pair_row_kinds_differ_from_number_clause : List Term
pair_row_kinds_differ_from_number_clause = (call1 "NOT" (call1 "LISTP" (variable "X"))) ∷ (call1 "NOT" (call1 "NUMBERP" (variable "X"))) ∷ []

-- (EQUAL (COUNT (CONS X1 X2)) (ADD1 (PLUS (IF T (COUNT X1) 0) (IF T (COUNT X2) 0))))
abbrev pub pair_row_size_of_made_clause : List Term
pair_row_size_of_made_clause = (call2 "EQUAL" (call1 "COUNT" (call2 "CONS" (variable "X1") (variable "X2"))) (call1 "ADD1" (call2 "PLUS" (call3 "IF" (call0 "TRUE") (call1 "COUNT" (variable "X1")) (call0 "ZERO")) (call3 "IF" (call0 "TRUE") (call1 "COUNT" (variable "X2")) (call0 "ZERO"))))) ∷ []

-- (NOT (LISTP X)), (EQUAL (CONS (CAR X) (CDR X)) X)
abbrev pub pair_row_remade_is_same_clause : List Term
pair_row_remade_is_same_clause = (call1 "NOT" (call1 "LISTP" (variable "X"))) ∷ (call2 "EQUAL" (call2 "CONS" (call1 "CAR" (variable "X")) (call1 "CDR" (variable "X"))) (variable "X")) ∷ []

-- (NOT (LISTP T))
abbrev pub pair_row_truth_is_none_clause : List Term
pair_row_truth_is_none_clause = (call1 "NOT" (call1 "LISTP" (call0 "TRUE"))) ∷ []

-- (NOT (LISTP F))
abbrev pub pair_row_falsity_is_none_clause : List Term
pair_row_falsity_is_none_clause = (call1 "NOT" (call1 "LISTP" (call0 "FALSE"))) ∷ []

-- (EQUAL (LISTP X) T), (EQUAL (LISTP X) F)
abbrev pub pair_row_recognizer_is_truth_value_clause : List Term
pair_row_recognizer_is_truth_value_clause = (call2 "EQUAL" (call1 "LISTP" (variable "X")) (call0 "TRUE")) ∷ (call2 "EQUAL" (call1 "LISTP" (variable "X")) (call0 "FALSE")) ∷ []

-- (NOT T), (EQUAL (CAR (CONS X1 X2)) X1)
abbrev pub pair_row_part_of_made_car_clause : List Term
pair_row_part_of_made_car_clause = (call1 "NOT" (call0 "TRUE")) ∷ (call2 "EQUAL" (call1 "CAR" (call2 "CONS" (variable "X1") (variable "X2"))) (variable "X1")) ∷ []

-- (NOT T), (EQUAL (CDR (CONS X1 X2)) X2)
abbrev pub pair_row_part_of_made_cdr_clause : List Term
pair_row_part_of_made_cdr_clause = (call1 "NOT" (call0 "TRUE")) ∷ (call2 "EQUAL" (call1 "CDR" (call2 "CONS" (variable "X1") (variable "X2"))) (variable "X2")) ∷ []

-- (LISTP X), (EQUAL (CAR X) 0)
abbrev pub pair_row_part_of_other_car_clause : List Term
pair_row_part_of_other_car_clause = (call1 "LISTP" (variable "X")) ∷ (call2 "EQUAL" (call1 "CAR" (variable "X")) (call0 "ZERO")) ∷ []

-- (LISTP X), (EQUAL (CDR X) 0)
abbrev pub pair_row_part_of_other_cdr_clause : List Term
pair_row_part_of_other_cdr_clause = (call1 "LISTP" (variable "X")) ∷ (call2 "EQUAL" (call1 "CDR" (variable "X")) (call0 "ZERO")) ∷ []

-- T, (EQUAL (CAR (CONS X1 X2)) 0)
abbrev pub pair_row_wrong_part_of_made_car_clause : List Term
pair_row_wrong_part_of_made_car_clause = (call0 "TRUE") ∷ (call2 "EQUAL" (call1 "CAR" (call2 "CONS" (variable "X1") (variable "X2"))) (call0 "ZERO")) ∷ []

-- T, (EQUAL (CONS X1 X2) (CONS 0 X2))
abbrev pub pair_row_wrong_part_car_clause : List Term
pair_row_wrong_part_car_clause = (call0 "TRUE") ∷ (call2 "EQUAL" (call2 "CONS" (variable "X1") (variable "X2")) (call2 "CONS" (call0 "ZERO") (variable "X2"))) ∷ []

-- T, (EQUAL (CDR (CONS X1 X2)) 0)
abbrev pub pair_row_wrong_part_of_made_cdr_clause : List Term
pair_row_wrong_part_of_made_cdr_clause = (call0 "TRUE") ∷ (call2 "EQUAL" (call1 "CDR" (call2 "CONS" (variable "X1") (variable "X2"))) (call0 "ZERO")) ∷ []

-- T, (EQUAL (CONS X1 X2) (CONS X1 0))
abbrev pub pair_row_wrong_part_cdr_clause : List Term
pair_row_wrong_part_cdr_clause = (call0 "TRUE") ∷ (call2 "EQUAL" (call2 "CONS" (variable "X1") (variable "X2")) (call2 "CONS" (variable "X1") (call0 "ZERO"))) ∷ []

-- all of these laws
abbrev pub laws_of_pair_rows : List (List Term)
laws_of_pair_rows = pair_row_kinds_differ_from_number_clause ∷ pair_row_size_of_made_clause ∷ pair_row_remade_is_same_clause ∷ pair_row_truth_is_none_clause ∷ pair_row_falsity_is_none_clause ∷ pair_row_recognizer_is_truth_value_clause ∷ pair_row_part_of_made_car_clause ∷ pair_row_part_of_made_cdr_clause ∷ pair_row_part_of_other_car_clause ∷ pair_row_part_of_other_cdr_clause ∷ pair_row_wrong_part_of_made_car_clause ∷ pair_row_wrong_part_car_clause ∷ pair_row_wrong_part_of_made_cdr_clause ∷ pair_row_wrong_part_cdr_clause ∷ []
