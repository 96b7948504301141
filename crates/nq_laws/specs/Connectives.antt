-- Laws of NOT, AND and OR on truth values, as clauses.
use Rattle.std.specs.Prelude.{List, [], ◌∷◌}
use Rattle.nq_logic.specs.Terms.{Term}
use Rattle.nq_logic.specs.Words.{variable, call0, call1, call2, call3}

-- (NOT X), (EQUAL (IF X Y Z) Y)
abbrev pub if_of_truth_clause : List Term
if_of_truth_clause = (call1 "NOT" (variable "X")) ∷ (call2 "EQUAL" (call3 "IF" (variable "X") (variable "Y") (variable "Z")) (variable "Y")) ∷ []

-- T
abbrev pub truth_is_true_clause : List Term
truth_is_true_clause = (call0 "TRUE") ∷ []

-- (EQUAL (NOT F) T)
abbrev pub not_of_falsity_clause : List Term
not_of_falsity_clause = (call2 "EQUAL" (call1 "NOT" (call0 "FALSE")) (call0 "TRUE")) ∷ []

-- (NOT X), (EQUAL (NOT X) F)
abbrev pub not_of_truth_clause : List Term
not_of_truth_clause = (call1 "NOT" (variable "X")) ∷ (call2 "EQUAL" (call1 "NOT" (variable "X")) (call0 "FALSE")) ∷ []

-- (NOT Y), (NOT X), (EQUAL (AND X Y) T)
abbrev pub and_of_truths_clause : List Term
and_of_truths_clause = (call1 "NOT" (variable "Y")) ∷ (call1 "NOT" (variable "X")) ∷ (call2 "EQUAL" (call2 "AND" (variable "X") (variable "Y")) (call0 "TRUE")) ∷ []

-- (EQUAL (AND F Y) F)
abbrev pub and_of_first_falsity_clause : List Term
and_of_first_falsity_clause = (call2 "EQUAL" (call2 "AND" (call0 "FALSE") (variable "Y")) (call0 "FALSE")) ∷ []

-- (EQUAL (AND X F) F)
abbrev pub and_of_second_falsity_clause : List Term
and_of_second_falsity_clause = (call2 "EQUAL" (call2 "AND" (variable "X") (call0 "FALSE")) (call0 "FALSE")) ∷ []

-- (NOT X), (EQUAL (OR X Y) T)
abbrev pub or_of_first_truth_clause : List Term
or_of_first_truth_clause = (call1 "NOT" (variable "X")) ∷ (call2 "EQUAL" (call2 "OR" (variable "X") (variable "Y")) (call0 "TRUE")) ∷ []

-- (NOT Y), (EQUAL (OR X Y) T)
abbrev pub or_of_second_truth_clause : List Term
or_of_second_truth_clause = (call1 "NOT" (variable "Y")) ∷ (call2 "EQUAL" (call2 "OR" (variable "X") (variable "Y")) (call0 "TRUE")) ∷ []

-- (EQUAL (OR F F) F)
abbrev pub or_of_falsities_clause : List Term
or_of_falsities_clause = (call2 "EQUAL" (call2 "OR" (call0 "FALSE") (call0 "FALSE")) (call0 "FALSE")) ∷ []

-- all of these laws
abbrev pub laws_of_connectives : List (List Term)
laws_of_connectives = if_of_truth_clause ∷ truth_is_true_clause ∷ not_of_falsity_clause ∷ not_of_truth_clause ∷ and_of_truths_clause ∷ and_of_first_falsity_clause ∷ and_of_second_falsity_clause ∷ or_of_first_truth_clause ∷ or_of_second_truth_clause ∷ or_of_falsities_clause ∷ []
