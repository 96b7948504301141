-- The clauses of the laws. They are printed.
use Rattle.std.specs.Prelude.{List, [], ◌∷◌}
use Rattle.nq_logic.specs.Terms.{Term}
use Rattle.nq_logic.specs.Words.{variable, call0, call1, call2, call3}

-- (LESSP X (ADD1 (PLUS X Y)))
abbrev pub less_than_sum_clause : List Term
less_than_sum_clause = (call2 "LESSP" (variable "X") (call1 "ADD1" (call2 "PLUS" (variable "X") (variable "Y")))) ∷ []

-- (NOT Y), (LESSP (COUNT A) (COUNT B)), (NOT (LESSP (IF Y (COUNT X) 0) (ADD1 Z))), (NOT (EQUAL (COUNT B) (ADD1 Z))), (NOT (EQUAL A X))
abbrev pub allowed_is_smaller_clause : List Term
allowed_is_smaller_clause = (call1 "NOT" (variable "Y")) ∷ (call2 "LESSP" (call1 "COUNT" (variable "A")) (call1 "COUNT" (variable "B"))) ∷ (call1 "NOT" (call2 "LESSP" (call3 "IF" (variable "Y") (call1 "COUNT" (variable "X")) (call0 "ZERO")) (call1 "ADD1" (variable "Z")))) ∷ (call1 "NOT" (call2 "EQUAL" (call1 "COUNT" (variable "B")) (call1 "ADD1" (variable "Z")))) ∷ (call1 "NOT" (call2 "EQUAL" (variable "A") (variable "X"))) ∷ []

-- (LESSP (COUNT A) (COUNT B)), (NOT (EQUAL (COUNT X) 0)), (NOT (EQUAL (COUNT B) (ADD1 Z))), (NOT (EQUAL A X))
abbrev pub base_is_smaller_clause : List Term
base_is_smaller_clause = (call2 "LESSP" (call1 "COUNT" (variable "A")) (call1 "COUNT" (variable "B"))) ∷ (call1 "NOT" (call2 "EQUAL" (call1 "COUNT" (variable "X")) (call0 "ZERO"))) ∷ (call1 "NOT" (call2 "EQUAL" (call1 "COUNT" (variable "B")) (call1 "ADD1" (variable "Z")))) ∷ (call1 "NOT" (call2 "EQUAL" (variable "A") (variable "X"))) ∷ []

-- (NOT (EQUAL X Y)), (NOT (NOT (EQUAL Y X)))
abbrev pub equation_by_turned_clause : List Term
equation_by_turned_clause = (call1 "NOT" (call2 "EQUAL" (variable "X") (variable "Y"))) ∷ (call1 "NOT" (call1 "NOT" (call2 "EQUAL" (variable "Y") (variable "X")))) ∷ []

-- (NOT (EQUAL X Y)), (NOT (NOT (EQUAL X Y)))
abbrev pub equation_by_itself_clause : List Term
equation_by_itself_clause = (call1 "NOT" (call2 "EQUAL" (variable "X") (variable "Y"))) ∷ (call1 "NOT" (call1 "NOT" (call2 "EQUAL" (variable "X") (variable "Y")))) ∷ []

-- (NOT X), (OR X Y)
abbrev pub first_of_choice_clause : List Term
first_of_choice_clause = (call1 "NOT" (variable "X")) ∷ (call2 "OR" (variable "X") (variable "Y")) ∷ []

-- (NOT Y), (OR X Y)
abbrev pub second_of_choice_clause : List Term
second_of_choice_clause = (call1 "NOT" (variable "Y")) ∷ (call2 "OR" (variable "X") (variable "Y")) ∷ []

-- Y, X, (NOT (OR X Y))
abbrev pub neither_of_choice_clause : List Term
neither_of_choice_clause = (variable "Y") ∷ (variable "X") ∷ (call1 "NOT" (call2 "OR" (variable "X") (variable "Y"))) ∷ []

-- (TRUEP T)
abbrev pub truth_is_truth_clause : List Term
truth_is_truth_clause = (call1 "TRUEP" (call0 "TRUE")) ∷ []

-- (FALSEP F)
abbrev pub falsity_is_falsity_clause : List Term
falsity_is_falsity_clause = (call1 "FALSEP" (call0 "FALSE")) ∷ []

-- (NOT (TRUEP F))
abbrev pub falsity_is_no_truth_clause : List Term
falsity_is_no_truth_clause = (call1 "NOT" (call1 "TRUEP" (call0 "FALSE"))) ∷ []

-- (NOT (FALSEP T))
abbrev pub truth_is_no_falsity_clause : List Term
truth_is_no_falsity_clause = (call1 "NOT" (call1 "FALSEP" (call0 "TRUE"))) ∷ []

-- (EQUAL X X)
abbrev pub same_is_equal_clause : List Term
same_is_equal_clause = (call2 "EQUAL" (variable "X") (variable "X")) ∷ []

-- (LESSP (COUNT A) (COUNT B)), (NOT (LESSP (COUNT X) (COUNT Y))), (NOT (EQUAL B Y)), (NOT (EQUAL A X))
abbrev pub smaller_as_others_are_clause : List Term
smaller_as_others_are_clause = (call2 "LESSP" (call1 "COUNT" (variable "A")) (call1 "COUNT" (variable "B"))) ∷ (call1 "NOT" (call2 "LESSP" (call1 "COUNT" (variable "X")) (call1 "COUNT" (variable "Y")))) ∷ (call1 "NOT" (call2 "EQUAL" (variable "B") (variable "Y"))) ∷ (call1 "NOT" (call2 "EQUAL" (variable "A") (variable "X"))) ∷ []

-- (LESSP X (ADD1 (PLUS Y Z))), (NOT (LESSP X (ADD1 Z)))
abbrev pub less_than_longer_sum_clause : List Term
less_than_longer_sum_clause = (call2 "LESSP" (variable "X") (call1 "ADD1" (call2 "PLUS" (variable "Y") (variable "Z")))) ∷ (call1 "NOT" (call2 "LESSP" (variable "X") (call1 "ADD1" (variable "Z")))) ∷ []
