-- Laws of the parts of values, as clauses.
use Rattle.std.specs.Prelude.{List, [], ◌∷◌}
use Rattle.nq_logic.specs.Terms.{Term}
use Rattle.nq_logic.specs.Words.{variable, call0, call1, call2}

-- (NOT (NUMBERP X1)), (EQUAL (SUB1 (ADD1 X1)) X1)
abbrev pub sub1_of_add1_clause : List Term
sub1_of_add1_clause = (call1 "NOT" (call1 "NUMBERP" (variable "X1"))) ∷ (call2 "EQUAL" (call1 "SUB1" (call1 "ADD1" (variable "X1"))) (variable "X1")) ∷ []

-- (EQUAL (SUB1 0) 0)
abbrev pub sub1_of_zero_numeral_clause : List Term
sub1_of_zero_numeral_clause = (call2 "EQUAL" (call1 "SUB1" (call0 "ZERO")) (call0 "ZERO")) ∷ []

-- (NOT (NUMBERP X1)), (EQUAL (NEGATIVE-GUTS (MINUS X1)) X1)
abbrev pub part_of_negative_clause : List Term
part_of_negative_clause = (call1 "NOT" (call1 "NUMBERP" (variable "X1"))) ∷ (call2 "EQUAL" (call1 "NEGATIVE-GUTS" (call1 "MINUS" (variable "X1"))) (variable "X1")) ∷ []

-- (EQUAL (CAR (CONS X1 X2)) X1)
abbrev pub first_of_pair_clause : List Term
first_of_pair_clause = (call2 "EQUAL" (call1 "CAR" (call2 "CONS" (variable "X1") (variable "X2"))) (variable "X1")) ∷ []

-- (EQUAL (CDR (CONS X1 X2)) X2)
abbrev pub rest_of_pair_clause : List Term
rest_of_pair_clause = (call2 "EQUAL" (call1 "CDR" (call2 "CONS" (variable "X1") (variable "X2"))) (variable "X2")) ∷ []

-- (EQUAL (UNPACK (PACK X1)) X1)
abbrev pub part_of_atom_clause : List Term
part_of_atom_clause = (call2 "EQUAL" (call1 "UNPACK" (call1 "PACK" (variable "X1"))) (variable "X1")) ∷ []

-- (NOT (EQUAL (LISTP X) F)), (EQUAL (CAR X) 0)
abbrev pub first_of_other_clause : List Term
first_of_other_clause = (call1 "NOT" (call2 "EQUAL" (call1 "LISTP" (variable "X")) (call0 "FALSE"))) ∷ (call2 "EQUAL" (call1 "CAR" (variable "X")) (call0 "ZERO")) ∷ []

-- (NOT (EQUAL (LISTP X) F)), (EQUAL (CDR X) 0)
abbrev pub rest_of_other_clause : List Term
rest_of_other_clause = (call1 "NOT" (call2 "EQUAL" (call1 "LISTP" (variable "X")) (call0 "FALSE"))) ∷ (call2 "EQUAL" (call1 "CDR" (variable "X")) (call0 "ZERO")) ∷ []

-- (NOT (EQUAL (LITATOM X) F)), (EQUAL (UNPACK X) 0)
abbrev pub atom_part_of_other_clause : List Term
atom_part_of_other_clause = (call1 "NOT" (call2 "EQUAL" (call1 "LITATOM" (variable "X")) (call0 "FALSE"))) ∷ (call2 "EQUAL" (call1 "UNPACK" (variable "X")) (call0 "ZERO")) ∷ []

-- (NOT (EQUAL (NEGATIVEP X) F)), (EQUAL (NEGATIVE-GUTS X) 0)
abbrev pub negative_part_of_other_clause : List Term
negative_part_of_other_clause = (call1 "NOT" (call2 "EQUAL" (call1 "NEGATIVEP" (variable "X")) (call0 "FALSE"))) ∷ (call2 "EQUAL" (call1 "NEGATIVE-GUTS" (variable "X")) (call0 "ZERO")) ∷ []

-- (NOT (EQUAL (NUMBERP X1) F)), (EQUAL (ADD1 X1) (ADD1 0))
abbrev pub add1_of_other_clause : List Term
add1_of_other_clause = (call1 "NOT" (call2 "EQUAL" (call1 "NUMBERP" (variable "X1")) (call0 "FALSE"))) ∷ (call2 "EQUAL" (call1 "ADD1" (variable "X1")) (call1 "ADD1" (call0 "ZERO"))) ∷ []

-- (NOT (EQUAL (NUMBERP X1) F)), (EQUAL (MINUS X1) (MINUS 0))
abbrev pub negative_of_other_clause : List Term
negative_of_other_clause = (call1 "NOT" (call2 "EQUAL" (call1 "NUMBERP" (variable "X1")) (call0 "FALSE"))) ∷ (call2 "EQUAL" (call1 "MINUS" (variable "X1")) (call1 "MINUS" (call0 "ZERO"))) ∷ []

-- (EQUAL (COUNT 0) 0)
abbrev pub size_of_zero_clause : List Term
size_of_zero_clause = (call2 "EQUAL" (call1 "COUNT" (call0 "ZERO")) (call0 "ZERO")) ∷ []

-- (NOT (NUMBERP A)), (NOT (EQUAL (COUNT A) A)), (EQUAL (COUNT (ADD1 A)) (ADD1 A))
abbrev pub size_step_clause : List Term
size_step_clause = (call1 "NOT" (call1 "NUMBERP" (variable "A"))) ∷ (call1 "NOT" (call2 "EQUAL" (call1 "COUNT" (variable "A")) (variable "A"))) ∷ (call2 "EQUAL" (call1 "COUNT" (call1 "ADD1" (variable "A"))) (call1 "ADD1" (variable "A"))) ∷ []

-- all of these laws
abbrev pub laws_of_parts : List (List Term)
laws_of_parts = sub1_of_add1_clause ∷ sub1_of_zero_numeral_clause ∷ part_of_negative_clause ∷ first_of_pair_clause ∷ rest_of_pair_clause ∷ part_of_atom_clause ∷ first_of_other_clause ∷ rest_of_other_clause ∷ atom_part_of_other_clause ∷ negative_part_of_other_clause ∷ add1_of_other_clause ∷ negative_of_other_clause ∷ size_of_zero_clause ∷ size_step_clause ∷ []
