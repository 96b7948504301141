-- Laws of the shell of literal atoms: the rows of its axioms that are no law under another name, as clauses.
use Rattle.std.specs.Prelude.{List, [], ◌∷◌}
use Rattle.nq_logic.specs.Terms.{Term}
use Rattle.nq_logic.specs.Words.{variable, call0, call1, call2, call3}

-- (NOT (LITATOM X)), (NOT (NUMBERP X))
abbrev pub atom_row_kinds_differ_from_number_clause : List Term
atom_row_kinds_differ_from_number_clause = (call1 "NOT" (call1 "LITATOM" (variable "X"))) ∷ (call1 "NOT" (call1 "NUMBERP" (variable "X"))) ∷ []

-- (NOT (LITATOM X)), (NOT (LISTP X))
abbrev pub atom_row_kinds_differ_from_pair_clause : List Term
atom_row_kinds_differ_from_pair_clause = (call1 "NOT" (call1 "LITATOM" (variable "X"))) ∷ (call1 "NOT" (call1 "LISTP" (variable "X"))) ∷ []

-- (NOT (LITATOM T))
abbrev pub atom_row_truth_is_none_clause : List Term
atom_row_truth_is_none_clause = (call1 "NOT" (call1 "LITATOM" (call0 "TRUE"))) ∷ []

-- (NOT (LITATOM F))
abbrev pub atom_row_falsity_is_none_clause : List Term
atom_row_falsity_is_none_clause = (call1 "NOT" (call1 "LITATOM" (call0 "FALSE"))) ∷ []

-- (EQUAL (LITATOM X) T), (EQUAL (LITATOM X) F)
abbrev pub atom_row_recognizer_is_truth_value_clause : List Term
atom_row_recognizer_is_truth_value_clause = (call2 "EQUAL" (call1 "LITATOM" (variable "X")) (call0 "TRUE")) ∷ (call2 "EQUAL" (call1 "LITATOM" (variable "X")) (call0 "FALSE")) ∷ []

-- (NOT T), (EQUAL (UNPACK (PACK X1)) X1)
abbrev pub atom_row_part_of_made_clause : List Term
atom_row_part_of_made_clause = (call1 "NOT" (call0 "TRUE")) ∷ (call2 "EQUAL" (call1 "UNPACK" (call1 "PACK" (variable "X1"))) (variable "X1")) ∷ []

-- (LITATOM X), (EQUAL (UNPACK X) 0)
abbrev pub atom_row_part_of_other_clause : List Term
atom_row_part_of_other_clause = (call1 "LITATOM" (variable "X")) ∷ (call2 "EQUAL" (call1 "UNPACK" (variable "X")) (call0 "ZERO")) ∷ []

-- (EQUAL (COUNT (PACK X1)) (ADD1 (IF T (COUNT X1) 0)))
abbrev pub atom_row_size_of_made_clause : List Term
atom_row_size_of_made_clause = (call2 "EQUAL" (call1 "COUNT" (call1 "PACK" (variable "X1"))) (call1 "ADD1" (call3 "IF" (call0 "TRUE") (call1 "COUNT" (variable "X1")) (call0 "ZERO")))) ∷ []

-- (NOT (LITATOM X)), (EQUAL (PACK (UNPACK X)) X)
abbrev pub atom_row_remade_is_same_clause : List Term
atom_row_remade_is_same_clause = (call1 "NOT" (call1 "LITATOM" (variable "X"))) ∷ (call2 "EQUAL" (call1 "PACK" (call1 "UNPACK" (variable "X"))) (variable "X")) ∷ []

-- T, (EQUAL (UNPACK (PACK X1)) 0)
abbrev pub atom_row_wrong_part_of_made_clause : List Term
atom_row_wrong_part_of_made_clause = (call0 "TRUE") ∷ (call2 "EQUAL" (call1 "UNPACK" (call1 "PACK" (variable "X1"))) (call0 "ZERO")) ∷ []

-- T, (EQUAL (PACK X1) (PACK 0))
abbrev pub atom_row_wrong_part_clause : List Term
atom_row_wrong_part_clause = (call0 "TRUE") ∷ (call2 "EQUAL" (call1 "PACK" (variable "X1")) (call1 "PACK" (call0 "ZERO"))) ∷ []

-- all of these laws
abbrev pub laws_of_atom_rows : List (List Term)
laws_of_atom_rows = atom_row_kinds_differ_from_number_clause ∷ atom_row_kinds_differ_from_pair_clause ∷ atom_row_truth_is_none_clause ∷ atom_row_falsity_is_none_clause ∷ atom_row_recognizer_is_truth_value_clause ∷ atom_row_part_of_made_clause ∷ atom_row_part_of_other_clause ∷ atom_row_size_of_made_clause ∷ atom_row_remade_is_same_clause ∷ atom_row_wrong_part_of_made_clause ∷ atom_row_wrong_part_clause ∷ []
