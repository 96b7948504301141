-- The clauses of the laws. They are printed.
use Rattle.std.specs.Prelude.{List, [], ◌∷◌}
use Rattle.nq_logic.specs.Terms.{Term}
use Rattle.nq_logic.specs.Words.{variable, call0, call1, call2, call3}

-- Y, (NOT X), (NOT (IMPLIES X Y))
abbrev pub implication_opens_clause : List Term
implication_opens_clause = (variable "Y") ∷ (call1 "NOT" (variable "X")) ∷ (call1 "NOT" (call2 "IMPLIES" (variable "X") (variable "Y"))) ∷ []

-- Y, X, (NOT (OR X Y))
abbrev pub choice_opens_clause : List Term
choice_opens_clause = (variable "Y") ∷ (variable "X") ∷ (call1 "NOT" (call2 "OR" (variable "X") (variable "Y"))) ∷ []

-- (NOT Y), (NOT X), (AND X Y)
abbrev pub pair_holds_clause : List Term
pair_holds_clause = (call1 "NOT" (variable "Y")) ∷ (call1 "NOT" (variable "X")) ∷ (call2 "AND" (variable "X") (variable "Y")) ∷ []

-- X, (NOT (AND X Y))
abbrev pub first_of_pair_clause : List Term
first_of_pair_clause = (variable "X") ∷ (call1 "NOT" (call2 "AND" (variable "X") (variable "Y"))) ∷ []

-- Y, (NOT (AND X Y))
abbrev pub second_of_pair_clause : List Term
second_of_pair_clause = (variable "Y") ∷ (call1 "NOT" (call2 "AND" (variable "X") (variable "Y"))) ∷ []

-- (ORDINALP (COUNT X))
abbrev pub size_is_ordinal_clause : List Term
size_is_ordinal_clause = (call1 "ORDINALP" (call1 "COUNT" (variable "X"))) ∷ []

-- (ORDINALP (IF (ORDINALP X) X 0))
abbrev pub measure_is_ordinal_clause : List Term
measure_is_ordinal_clause = (call1 "ORDINALP" (call3 "IF" (call1 "ORDINALP" (variable "X")) (variable "X") (call0 "ZERO"))) ∷ []

-- (NOT (ORDINALP X)), (NOT (ORDINALP Y)), (ORD-LESSP (IF (ORDINALP X) X 0) (IF (ORDINALP Y) Y 0)), (NOT (ORD-LESSP X Y))
abbrev pub measure_falls_clause : List Term
measure_falls_clause = (call1 "NOT" (call1 "ORDINALP" (variable "X"))) ∷ (call1 "NOT" (call1 "ORDINALP" (variable "Y"))) ∷ (call2 "ORD-LESSP" (call3 "IF" (call1 "ORDINALP" (variable "X")) (variable "X") (call0 "ZERO")) (call3 "IF" (call1 "ORDINALP" (variable "Y")) (variable "Y") (call0 "ZERO"))) ∷ (call1 "NOT" (call2 "ORD-LESSP" (variable "X") (variable "Y"))) ∷ []

-- (NOT (LESSP (COUNT X) (COUNT Y))), (ORD-LESSP (COUNT X) (COUNT Y))
abbrev pub smaller_is_below_clause : List Term
smaller_is_below_clause = (call1 "NOT" (call2 "LESSP" (call1 "COUNT" (variable "X")) (call1 "COUNT" (variable "Y")))) ∷ (call2 "ORD-LESSP" (call1 "COUNT" (variable "X")) (call1 "COUNT" (variable "Y"))) ∷ []

-- (NOT (NOT (ZEROP X))), (ORD-LESSP (COUNT (SUB1 X)) (COUNT X))
abbrev pub size_falls_clause : List Term
size_falls_clause = (call1 "NOT" (call1 "NOT" (call1 "ZEROP" (variable "X")))) ∷ (call2 "ORD-LESSP" (call1 "COUNT" (call1 "SUB1" (variable "X"))) (call1 "COUNT" (variable "X"))) ∷ []

-- (NOT (LESSP Y Z)), (NOT (LESSP X Y)), (LESSP X Z)
abbrev pub less_is_transitive_clause : List Term
less_is_transitive_clause = (call1 "NOT" (call2 "LESSP" (variable "Y") (variable "Z"))) ∷ (call1 "NOT" (call2 "LESSP" (variable "X") (variable "Y"))) ∷ (call2 "LESSP" (variable "X") (variable "Z")) ∷ []

-- (NOT (LESSP (COUNT Y) (COUNT Z))), (NOT (LESSP (COUNT X) (COUNT Y))), (LESSP (COUNT X) (COUNT Z))
abbrev pub sizes_descend_clause : List Term
sizes_descend_clause = (call1 "NOT" (call2 "LESSP" (call1 "COUNT" (variable "Y")) (call1 "COUNT" (variable "Z")))) ∷ (call1 "NOT" (call2 "LESSP" (call1 "COUNT" (variable "X")) (call1 "COUNT" (variable "Y")))) ∷ (call2 "LESSP" (call1 "COUNT" (variable "X")) (call1 "COUNT" (variable "Z"))) ∷ []

-- (NOT (LISTP X)), (LESSP (COUNT (CAR X)) (COUNT X))
abbrev pub first_is_smaller_clause : List Term
first_is_smaller_clause = (call1 "NOT" (call1 "LISTP" (variable "X"))) ∷ (call2 "LESSP" (call1 "COUNT" (call1 "CAR" (variable "X"))) (call1 "COUNT" (variable "X"))) ∷ []

-- (LESSP (COUNT (CAR X)) (COUNT X)), (NOT (NOT (NLISTP X)))
abbrev pub first_by_no_atom_clause : List Term
first_by_no_atom_clause = (call2 "LESSP" (call1 "COUNT" (call1 "CAR" (variable "X"))) (call1 "COUNT" (variable "X"))) ∷ (call1 "NOT" (call1 "NOT" (call1 "NLISTP" (variable "X")))) ∷ []

-- (NOT (LISTP X)), (LESSP (COUNT (CDR X)) (COUNT X))
abbrev pub rest_is_smaller_clause : List Term
rest_is_smaller_clause = (call1 "NOT" (call1 "LISTP" (variable "X"))) ∷ (call2 "LESSP" (call1 "COUNT" (call1 "CDR" (variable "X"))) (call1 "COUNT" (variable "X"))) ∷ []

-- (LESSP (COUNT (CDR X)) (COUNT X)), (NOT (NOT (NLISTP X)))
abbrev pub rest_by_no_atom_clause : List Term
rest_by_no_atom_clause = (call2 "LESSP" (call1 "COUNT" (call1 "CDR" (variable "X"))) (call1 "COUNT" (variable "X"))) ∷ (call1 "NOT" (call1 "NOT" (call1 "NLISTP" (variable "X")))) ∷ []

-- (LESSP X (ADD1 X))
abbrev pub less_than_one_more_clause : List Term
less_than_one_more_clause = (call2 "LESSP" (variable "X") (call1 "ADD1" (variable "X"))) ∷ []

-- (NOT (LITATOM X)), (LESSP (COUNT (UNPACK X)) (COUNT X))
abbrev pub atom_part_is_smaller_clause : List Term
atom_part_is_smaller_clause = (call1 "NOT" (call1 "LITATOM" (variable "X"))) ∷ (call2 "LESSP" (call1 "COUNT" (call1 "UNPACK" (variable "X"))) (call1 "COUNT" (variable "X"))) ∷ []

-- (NOT (NEGATIVEP X)), (LESSP (COUNT (NEGATIVE-GUTS X)) (COUNT X))
abbrev pub negative_part_is_smaller_clause : List Term
negative_part_is_smaller_clause = (call1 "NOT" (call1 "NEGATIVEP" (variable "X"))) ∷ (call2 "LESSP" (call1 "COUNT" (call1 "NEGATIVE-GUTS" (variable "X"))) (call1 "COUNT" (variable "X"))) ∷ []

-- (ZEROP X), (LESSP (COUNT (SUB1 X)) (COUNT X))
abbrev pub one_less_is_smaller_clause : List Term
one_less_is_smaller_clause = (call1 "ZEROP" (variable "X")) ∷ (call2 "LESSP" (call1 "COUNT" (call1 "SUB1" (variable "X"))) (call1 "COUNT" (variable "X"))) ∷ []

-- (LESSP (COUNT (SUB1 X)) (COUNT X)), (NOT (NOT (ZEROP X)))
abbrev pub one_less_by_no_zero_clause : List Term
one_less_by_no_zero_clause = (call2 "LESSP" (call1 "COUNT" (call1 "SUB1" (variable "X"))) (call1 "COUNT" (variable "X"))) ∷ (call1 "NOT" (call1 "NOT" (call1 "ZEROP" (variable "X")))) ∷ []

-- (LESSP (COUNT (SUB1 X)) (COUNT X)), (NOT (NUMBERP X)), (NOT (NOT (EQUAL X 0)))
abbrev pub one_less_of_number_clause : List Term
one_less_of_number_clause = (call2 "LESSP" (call1 "COUNT" (call1 "SUB1" (variable "X"))) (call1 "COUNT" (variable "X"))) ∷ (call1 "NOT" (call1 "NUMBERP" (variable "X"))) ∷ (call1 "NOT" (call1 "NOT" (call2 "EQUAL" (variable "X") (call0 "ZERO")))) ∷ []

-- (LESSP (COUNT (SUB1 X)) (COUNT X)), (NOT (NUMBERP X)), (NOT (NOT (EQUAL 0 X)))
abbrev pub one_less_of_number_turned_clause : List Term
one_less_of_number_turned_clause = (call2 "LESSP" (call1 "COUNT" (call1 "SUB1" (variable "X"))) (call1 "COUNT" (variable "X"))) ∷ (call1 "NOT" (call1 "NUMBERP" (variable "X"))) ∷ (call1 "NOT" (call1 "NOT" (call2 "EQUAL" (call0 "ZERO") (variable "X")))) ∷ []
