-- Laws of ORDINALP and ORD-LESSP on numbers, as clauses.
use Rattle.std.specs.Prelude.{List, [], ◌∷◌}
use Rattle.nq_logic.specs.Terms.{Term}
use Rattle.nq_logic.specs.Words.{variable, call1, call2}

-- (ORDINALP (COUNT X))
abbrev pub size_is_ordinal_clause : List Term
size_is_ordinal_clause = (call1 "ORDINALP" (call1 "COUNT" (variable "X"))) ∷ []

-- (ZEROP X), (EQUAL (COUNT X) (ADD1 (COUNT (SUB1 X))))
abbrev pub size_of_positive_clause : List Term
size_of_positive_clause = (call1 "ZEROP" (variable "X")) ∷ (call2 "EQUAL" (call1 "COUNT" (variable "X")) (call1 "ADD1" (call1 "COUNT" (call1 "SUB1" (variable "X"))))) ∷ []

-- (NOT (NOT (ZEROP X))), (ORD-LESSP (COUNT (SUB1 X)) (COUNT X))
abbrev pub size_falls_clause : List Term
size_falls_clause = (call1 "NOT" (call1 "NOT" (call1 "ZEROP" (variable "X")))) ∷ (call2 "ORD-LESSP" (call1 "COUNT" (call1 "SUB1" (variable "X"))) (call1 "COUNT" (variable "X"))) ∷ []

-- (LISTP Y), (LISTP X), (EQUAL (ORD-LESSP X Y) (LESSP X Y))
abbrev pub ordinal_less_is_less_clause : List Term
ordinal_less_is_less_clause = (call1 "LISTP" (variable "Y")) ∷ (call1 "LISTP" (variable "X")) ∷ (call2 "EQUAL" (call2 "ORD-LESSP" (variable "X") (variable "Y")) (call2 "LESSP" (variable "X") (variable "Y"))) ∷ []

-- all of these laws
abbrev pub laws_of_ordinals : List (List Term)
laws_of_ordinals = size_is_ordinal_clause ∷ size_of_positive_clause ∷ size_falls_clause ∷ ordinal_less_is_less_clause ∷ []
