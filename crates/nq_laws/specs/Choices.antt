-- Laws of TRUEP, FALSEP and OR, of which the restrictions of parts are made, as clauses.
use Rattle.std.specs.Prelude.{List, [], ◌∷◌}
use Rattle.nq_logic.specs.Terms.{Term}
use Rattle.nq_logic.specs.Words.{variable, call0, call1, call2}

-- (TRUEP T)
abbrev pub truth_is_truth_clause : List Term
truth_is_truth_clause = (call1 "TRUEP" (call0 "TRUE")) ∷ []

-- (FALSEP F)
abbrev pub falsity_is_falsity_clause : List Term
falsity_is_falsity_clause = (call1 "FALSEP" (call0 "FALSE")) ∷ []

-- (NOT (FALSEP T))
abbrev pub truth_is_not_falsity_clause : List Term
truth_is_not_falsity_clause = (call1 "NOT" (call1 "FALSEP" (call0 "TRUE"))) ∷ []

-- (NOT (TRUEP F))
abbrev pub falsity_is_not_truth_clause : List Term
falsity_is_not_truth_clause = (call1 "NOT" (call1 "TRUEP" (call0 "FALSE"))) ∷ []

-- (NOT (NOT (EQUAL X T))), (NOT (TRUEP X))
abbrev pub other_than_truth_clause : List Term
other_than_truth_clause = (call1 "NOT" (call1 "NOT" (call2 "EQUAL" (variable "X") (call0 "TRUE")))) ∷ (call1 "NOT" (call1 "TRUEP" (variable "X"))) ∷ []

-- (NOT (NOT (EQUAL X F))), (NOT (FALSEP X))
abbrev pub other_than_falsity_clause : List Term
other_than_falsity_clause = (call1 "NOT" (call1 "NOT" (call2 "EQUAL" (variable "X") (call0 "FALSE")))) ∷ (call1 "NOT" (call1 "FALSEP" (variable "X"))) ∷ []

-- (NOT X), (OR X Y)
abbrev pub first_of_choice_clause : List Term
first_of_choice_clause = (call1 "NOT" (variable "X")) ∷ (call2 "OR" (variable "X") (variable "Y")) ∷ []

-- (NOT Y), (OR X Y)
abbrev pub second_of_choice_clause : List Term
second_of_choice_clause = (call1 "NOT" (variable "Y")) ∷ (call2 "OR" (variable "X") (variable "Y")) ∷ []

-- (NOT (NOT Y)), (NOT (NOT X)), (NOT (OR X Y))
abbrev pub none_of_choice_clause : List Term
none_of_choice_clause = (call1 "NOT" (call1 "NOT" (variable "Y"))) ∷ (call1 "NOT" (call1 "NOT" (variable "X"))) ∷ (call1 "NOT" (call2 "OR" (variable "X") (variable "Y"))) ∷ []

-- all of these laws
abbrev pub laws_of_choices : List (List Term)
laws_of_choices = truth_is_truth_clause ∷ falsity_is_falsity_clause ∷ truth_is_not_falsity_clause ∷ falsity_is_not_truth_clause ∷ other_than_truth_clause ∷ other_than_falsity_clause ∷ first_of_choice_clause ∷ second_of_choice_clause ∷ none_of_choice_clause ∷ []
