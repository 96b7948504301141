-- Laws of T and F as values, as clauses.
use Rattle.std.specs.Prelude.{List, [], ◌∷◌}
use Rattle.nq_logic.specs.Terms.{Term}
use Rattle.nq_logic.specs.Words.{variable, call0, call1, call2}

-- (NOT (EQUAL T F))
abbrev pub truth_is_no_falsity_clause : List Term
truth_is_no_falsity_clause = (call1 "NOT" (call2 "EQUAL" (call0 "TRUE") (call0 "FALSE"))) ∷ []

-- (EQUAL (EQUAL X X) T)
abbrev pub same_are_equal_clause : List Term
same_are_equal_clause = (call2 "EQUAL" (call2 "EQUAL" (variable "X") (variable "X")) (call0 "TRUE")) ∷ []

-- (EQUAL (EQUAL T F) F)
abbrev pub truth_differs_from_falsity_clause : List Term
truth_differs_from_falsity_clause = (call2 "EQUAL" (call2 "EQUAL" (call0 "TRUE") (call0 "FALSE")) (call0 "FALSE")) ∷ []

-- (EQUAL (EQUAL F T) F)
abbrev pub falsity_differs_from_truth_clause : List Term
falsity_differs_from_truth_clause = (call2 "EQUAL" (call2 "EQUAL" (call0 "FALSE") (call0 "TRUE")) (call0 "FALSE")) ∷ []

-- all of these laws
abbrev pub laws_of_truth_values : List (List Term)
laws_of_truth_values = truth_is_no_falsity_clause ∷ same_are_equal_clause ∷ truth_differs_from_falsity_clause ∷ falsity_differs_from_truth_clause ∷ []
