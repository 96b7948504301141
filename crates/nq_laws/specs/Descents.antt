-- Laws of the sizes of parts, as clauses.
use Rattle.std.specs.Prelude.{List, [], ◌∷◌}
use Rattle.nq_logic.specs.Terms.{Term}
use Rattle.nq_logic.specs.Words.{variable, call0, call1, call2, call3}

-- (LESSP X (ADD1 X))
abbrev pub less_than_one_more_clause : List Term
less_than_one_more_clause = (call2 "LESSP" (variable "X") (call1 "ADD1" (variable "X"))) ∷ []

-- (NOT (LESSP E (ADD1 Y))), (LESSP E (ADD1 (PLUS X Y)))
abbrev pub less_than_longer_sum_clause : List Term
less_than_longer_sum_clause = (call1 "NOT" (call2 "LESSP" (variable "E") (call1 "ADD1" (variable "Y")))) ∷ (call2 "LESSP" (variable "E") (call1 "ADD1" (call2 "PLUS" (variable "X") (variable "Y")))) ∷ []

-- (NOT P), (NOT (LESSP (IF P D 0) (ADD1 S))), (NOT (EQUAL (COUNT C) (ADD1 S))), (NOT (EQUAL C X)), (LESSP D (COUNT X))
abbrev pub part_is_smaller_clause : List Term
part_is_smaller_clause = (call1 "NOT" (variable "P")) ∷ (call1 "NOT" (call2 "LESSP" (call3 "IF" (variable "P") (variable "D") (call0 "ZERO")) (call1 "ADD1" (variable "S")))) ∷ (call1 "NOT" (call2 "EQUAL" (call1 "COUNT" (variable "C")) (call1 "ADD1" (variable "S")))) ∷ (call1 "NOT" (call2 "EQUAL" (variable "C") (variable "X"))) ∷ (call2 "LESSP" (variable "D") (call1 "COUNT" (variable "X"))) ∷ []

-- (ZEROP X), (LESSP (COUNT (SUB1 X)) (COUNT X))
abbrev pub one_less_is_smaller_clause : List Term
one_less_is_smaller_clause = (call1 "ZEROP" (variable "X")) ∷ (call2 "LESSP" (call1 "COUNT" (call1 "SUB1" (variable "X"))) (call1 "COUNT" (variable "X"))) ∷ []

-- (NOT (LITATOM X)), (LESSP (COUNT (UNPACK X)) (COUNT X))
abbrev pub atom_part_is_smaller_clause : List Term
atom_part_is_smaller_clause = (call1 "NOT" (call1 "LITATOM" (variable "X"))) ∷ (call2 "LESSP" (call1 "COUNT" (call1 "UNPACK" (variable "X"))) (call1 "COUNT" (variable "X"))) ∷ []

-- (NOT (NEGATIVEP X)), (LESSP (COUNT (NEGATIVE-GUTS X)) (COUNT X))
abbrev pub negative_part_is_smaller_clause : List Term
negative_part_is_smaller_clause = (call1 "NOT" (call1 "NEGATIVEP" (variable "X"))) ∷ (call2 "LESSP" (call1 "COUNT" (call1 "NEGATIVE-GUTS" (variable "X"))) (call1 "COUNT" (variable "X"))) ∷ []

-- (NOT (LESSP (COUNT Y) (COUNT Z))), (NOT (LESSP (COUNT X) (COUNT Y))), (LESSP (COUNT X) (COUNT Z))
abbrev pub sizes_descend_clause : List Term
sizes_descend_clause = (call1 "NOT" (call2 "LESSP" (call1 "COUNT" (variable "Y")) (call1 "COUNT" (variable "Z")))) ∷ (call1 "NOT" (call2 "LESSP" (call1 "COUNT" (variable "X")) (call1 "COUNT" (variable "Y")))) ∷ (call2 "LESSP" (call1 "COUNT" (variable "X")) (call1 "COUNT" (variable "Z"))) ∷ []

-- (NOT (LESSP (COUNT X) (COUNT Y))), (ORD-LESSP (COUNT X) (COUNT Y))
abbrev pub smaller_is_below_clause : List Term
smaller_is_below_clause = (call1 "NOT" (call2 "LESSP" (call1 "COUNT" (variable "X")) (call1 "COUNT" (variable "Y")))) ∷ (call2 "ORD-LESSP" (call1 "COUNT" (variable "X")) (call1 "COUNT" (variable "Y"))) ∷ []

-- (ORDINALP (FIX X))
abbrev pub fix_is_ordinal_clause : List Term
fix_is_ordinal_clause = (call1 "ORDINALP" (call1 "FIX" (variable "X"))) ∷ []

-- all of these laws
abbrev pub laws_of_descents : List (List Term)
laws_of_descents = less_than_one_more_clause ∷ less_than_longer_sum_clause ∷ part_is_smaller_clause ∷ one_less_is_smaller_clause ∷ atom_part_is_smaller_clause ∷ negative_part_is_smaller_clause ∷ sizes_descend_clause ∷ smaller_is_below_clause ∷ fix_is_ordinal_clause ∷ []
