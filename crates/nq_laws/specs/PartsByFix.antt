-- Laws of functions of one argument, by its FIX, as clauses.
use Rattle.std.specs.Prelude.{List, [], ◌∷◌}
use Rattle.nq_logic.specs.Terms.{Term}
use Rattle.nq_logic.specs.Words.{variable, call0, call1, call2}

-- (NOT (EQUAL (FIX X) 0)), (EQUAL (SUB1 X) 0)
abbrev pub sub1_with_zero_fix_clause : List Term
sub1_with_zero_fix_clause = (call1 "NOT" (call2 "EQUAL" (call1 "FIX" (variable "X")) (call0 "ZERO"))) ∷ (call2 "EQUAL" (call1 "SUB1" (variable "X")) (call0 "ZERO")) ∷ []

-- (NOT (EQUAL (FIX X) (ADD1 A))), (NOT (NUMBERP A)), (EQUAL (SUB1 X) A)
abbrev pub sub1_with_positive_fix_clause : List Term
sub1_with_positive_fix_clause = (call1 "NOT" (call2 "EQUAL" (call1 "FIX" (variable "X")) (call1 "ADD1" (variable "A")))) ∷ (call1 "NOT" (call1 "NUMBERP" (variable "A"))) ∷ (call2 "EQUAL" (call1 "SUB1" (variable "X")) (variable "A")) ∷ []

-- (NOT (EQUAL (FIX X) 0)), (EQUAL (ZEROP X) T)
abbrev pub zero_test_with_zero_fix_clause : List Term
zero_test_with_zero_fix_clause = (call1 "NOT" (call2 "EQUAL" (call1 "FIX" (variable "X")) (call0 "ZERO"))) ∷ (call2 "EQUAL" (call1 "ZEROP" (variable "X")) (call0 "TRUE")) ∷ []

-- (NOT (EQUAL (FIX X) (ADD1 A))), (EQUAL (ZEROP X) F)
abbrev pub zero_test_with_positive_fix_clause : List Term
zero_test_with_positive_fix_clause = (call1 "NOT" (call2 "EQUAL" (call1 "FIX" (variable "X")) (call1 "ADD1" (variable "A")))) ∷ (call2 "EQUAL" (call1 "ZEROP" (variable "X")) (call0 "FALSE")) ∷ []

-- (NOT (EQUAL (NUMBERP X) F)), (EQUAL (FIX X) 0)
abbrev pub fix_where_no_number_clause : List Term
fix_where_no_number_clause = (call1 "NOT" (call2 "EQUAL" (call1 "NUMBERP" (variable "X")) (call0 "FALSE"))) ∷ (call2 "EQUAL" (call1 "FIX" (variable "X")) (call0 "ZERO")) ∷ []

-- (EQUAL (IDENTITY X) X)
abbrev pub same_after_identity_clause : List Term
same_after_identity_clause = (call2 "EQUAL" (call1 "IDENTITY" (variable "X")) (variable "X")) ∷ []

-- all of these laws
abbrev pub laws_of_parts_by_fix : List (List Term)
laws_of_parts_by_fix = sub1_with_zero_fix_clause ∷ sub1_with_positive_fix_clause ∷ zero_test_with_zero_fix_clause ∷ zero_test_with_positive_fix_clause ∷ fix_where_no_number_clause ∷ same_after_identity_clause ∷ []
