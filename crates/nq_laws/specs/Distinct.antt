-- Laws of values of one kind that differ, as clauses.
use Rattle.std.specs.Prelude.{List, [], ◌∷◌}
use Rattle.nq_logic.specs.Terms.{Term}
use Rattle.nq_logic.specs.Words.{variable, call0, call1, call2}

-- (NOT (EQUAL 0 (ADD1 X1)))
abbrev pub zero_is_no_add1_clause : List Term
zero_is_no_add1_clause = (call1 "NOT" (call2 "EQUAL" (call0 "ZERO") (call1 "ADD1" (variable "X1")))) ∷ []

-- (EQUAL (EQUAL 0 (ADD1 X1)) F)
abbrev pub zero_differs_from_add1_clause : List Term
zero_differs_from_add1_clause = (call2 "EQUAL" (call2 "EQUAL" (call0 "ZERO") (call1 "ADD1" (variable "X1"))) (call0 "FALSE")) ∷ []

-- (EQUAL (EQUAL (ADD1 X1) 0) F)
abbrev pub add1_differs_from_zero_clause : List Term
add1_differs_from_zero_clause = (call2 "EQUAL" (call2 "EQUAL" (call1 "ADD1" (variable "X1")) (call0 "ZERO")) (call0 "FALSE")) ∷ []

-- (NOT (NUMBERP B)), (NOT (NUMBERP A)), (NOT (EQUAL (EQUAL A B) F)), (EQUAL (EQUAL (ADD1 A) (ADD1 B)) F)
abbrev pub add1s_differ_clause : List Term
add1s_differ_clause = (call1 "NOT" (call1 "NUMBERP" (variable "B"))) ∷ (call1 "NOT" (call1 "NUMBERP" (variable "A"))) ∷ (call1 "NOT" (call2 "EQUAL" (call2 "EQUAL" (variable "A") (variable "B")) (call0 "FALSE"))) ∷ (call2 "EQUAL" (call2 "EQUAL" (call1 "ADD1" (variable "A")) (call1 "ADD1" (variable "B"))) (call0 "FALSE")) ∷ []

-- (NOT (EQUAL (EQUAL A C) F)), (EQUAL (EQUAL (CONS A B) (CONS C D)) F)
abbrev pub firsts_differ_clause : List Term
firsts_differ_clause = (call1 "NOT" (call2 "EQUAL" (call2 "EQUAL" (variable "A") (variable "C")) (call0 "FALSE"))) ∷ (call2 "EQUAL" (call2 "EQUAL" (call2 "CONS" (variable "A") (variable "B")) (call2 "CONS" (variable "C") (variable "D"))) (call0 "FALSE")) ∷ []

-- (NOT (EQUAL (EQUAL B D) F)), (EQUAL (EQUAL (CONS A B) (CONS C D)) F)
abbrev pub rests_differ_clause : List Term
rests_differ_clause = (call1 "NOT" (call2 "EQUAL" (call2 "EQUAL" (variable "B") (variable "D")) (call0 "FALSE"))) ∷ (call2 "EQUAL" (call2 "EQUAL" (call2 "CONS" (variable "A") (variable "B")) (call2 "CONS" (variable "C") (variable "D"))) (call0 "FALSE")) ∷ []

-- (NOT (EQUAL (EQUAL A B) F)), (EQUAL (EQUAL (PACK A) (PACK B)) F)
abbrev pub atoms_differ_clause : List Term
atoms_differ_clause = (call1 "NOT" (call2 "EQUAL" (call2 "EQUAL" (variable "A") (variable "B")) (call0 "FALSE"))) ∷ (call2 "EQUAL" (call2 "EQUAL" (call1 "PACK" (variable "A")) (call1 "PACK" (variable "B"))) (call0 "FALSE")) ∷ []

-- (NOT (NUMBERP B)), (NOT (NUMBERP A)), (NOT (EQUAL (EQUAL A B) F)), (EQUAL (EQUAL (MINUS A) (MINUS B)) F)
abbrev pub negatives_differ_clause : List Term
negatives_differ_clause = (call1 "NOT" (call1 "NUMBERP" (variable "B"))) ∷ (call1 "NOT" (call1 "NUMBERP" (variable "A"))) ∷ (call1 "NOT" (call2 "EQUAL" (call2 "EQUAL" (variable "A") (variable "B")) (call0 "FALSE"))) ∷ (call2 "EQUAL" (call2 "EQUAL" (call1 "MINUS" (variable "A")) (call1 "MINUS" (variable "B"))) (call0 "FALSE")) ∷ []

-- all of these laws
abbrev pub laws_of_distinct : List (List Term)
laws_of_distinct = zero_is_no_add1_clause ∷ zero_differs_from_add1_clause ∷ add1_differs_from_zero_clause ∷ add1s_differ_clause ∷ firsts_differ_clause ∷ rests_differ_clause ∷ atoms_differ_clause ∷ negatives_differ_clause ∷ []
