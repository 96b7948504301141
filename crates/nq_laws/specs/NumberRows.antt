-- Laws of the shell of numbers: the rows of its axioms that are no law under another name, as clauses.
use Rattle.std.specs.Prelude.{List, [], ◌∷◌}
use Rattle.nq_logic.specs.Terms.{Term}
use Rattle.nq_logic.specs.Words.{variable, call0, call1, call2, call3}

-- (NOT (EQUAL (ADD1 X1) 0))
abbrev pub number_row_made_is_no_base_clause : List Term
number_row_made_is_no_base_clause = (call1 "NOT" (call2 "EQUAL" (call1 "ADD1" (variable "X1")) (call0 "ZERO"))) ∷ []

-- (NOT (NUMBERP X)), (EQUAL X 0), (EQUAL (ADD1 (SUB1 X)) X)
abbrev pub number_row_remade_is_same_clause : List Term
number_row_remade_is_same_clause = (call1 "NOT" (call1 "NUMBERP" (variable "X"))) ∷ (call2 "EQUAL" (variable "X") (call0 "ZERO")) ∷ (call2 "EQUAL" (call1 "ADD1" (call1 "SUB1" (variable "X"))) (variable "X")) ∷ []

-- (NUMBERP X), (EQUAL (SUB1 X) 0)
abbrev pub number_row_part_of_other_clause : List Term
number_row_part_of_other_clause = (call1 "NUMBERP" (variable "X")) ∷ (call2 "EQUAL" (call1 "SUB1" (variable "X")) (call0 "ZERO")) ∷ []

-- (NUMBERP X1), (EQUAL (ADD1 X1) (ADD1 0))
abbrev pub number_row_wrong_part_clause : List Term
number_row_wrong_part_clause = (call1 "NUMBERP" (variable "X1")) ∷ (call2 "EQUAL" (call1 "ADD1" (variable "X1")) (call1 "ADD1" (call0 "ZERO"))) ∷ []

-- (NUMBERP X1), (EQUAL (SUB1 (ADD1 X1)) 0)
abbrev pub number_row_wrong_part_of_made_clause : List Term
number_row_wrong_part_of_made_clause = (call1 "NUMBERP" (variable "X1")) ∷ (call2 "EQUAL" (call1 "SUB1" (call1 "ADD1" (variable "X1"))) (call0 "ZERO")) ∷ []

-- (EQUAL (COUNT (ADD1 X1)) (ADD1 (IF (NUMBERP X1) (COUNT X1) 0)))
abbrev pub number_row_size_of_made_clause : List Term
number_row_size_of_made_clause = (call2 "EQUAL" (call1 "COUNT" (call1 "ADD1" (variable "X1"))) (call1 "ADD1" (call3 "IF" (call1 "NUMBERP" (variable "X1")) (call1 "COUNT" (variable "X1")) (call0 "ZERO")))) ∷ []

-- (NOT (NUMBERP T))
abbrev pub number_row_truth_is_none_clause : List Term
number_row_truth_is_none_clause = (call1 "NOT" (call1 "NUMBERP" (call0 "TRUE"))) ∷ []

-- (NOT (NUMBERP F))
abbrev pub number_row_falsity_is_none_clause : List Term
number_row_falsity_is_none_clause = (call1 "NOT" (call1 "NUMBERP" (call0 "FALSE"))) ∷ []

-- (EQUAL (NUMBERP X) T), (EQUAL (NUMBERP X) F)
abbrev pub number_row_recognizer_is_truth_value_clause : List Term
number_row_recognizer_is_truth_value_clause = (call2 "EQUAL" (call1 "NUMBERP" (variable "X")) (call0 "TRUE")) ∷ (call2 "EQUAL" (call1 "NUMBERP" (variable "X")) (call0 "FALSE")) ∷ []

-- all of these laws
abbrev pub laws_of_number_rows : List (List Term)
laws_of_number_rows = number_row_made_is_no_base_clause ∷ number_row_remade_is_same_clause ∷ number_row_part_of_other_clause ∷ number_row_wrong_part_clause ∷ number_row_wrong_part_of_made_clause ∷ number_row_size_of_made_clause ∷ number_row_truth_is_none_clause ∷ number_row_falsity_is_none_clause ∷ number_row_recognizer_is_truth_value_clause ∷ []
