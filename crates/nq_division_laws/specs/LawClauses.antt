-- The clauses on which the laws of remainders stand. They are printed.
use Rattle.std.specs.Prelude.{List, [], ◌∷◌}
use Rattle.nq_logic.specs.Terms.{Term}
use Rattle.nq_logic.specs.Words.{variable, call0, call1, call2, call3}

-- (ZEROP Y), (ZEROP X), (LESSP (DIFFERENCE X Y) X)
abbrev pub difference_is_less_clause : List Term
difference_is_less_clause = (call1 "ZEROP" (variable "Y")) ∷ (call1 "ZEROP" (variable "X")) ∷ (call2 "LESSP" (call2 "DIFFERENCE" (variable "X") (variable "Y")) (variable "X")) ∷ []

-- (ORD-LESSP (COUNT (DIFFERENCE X Y)) (COUNT X)), (NOT (IF (ZEROP Y) F (IF (LESSP X Y) F T)))
abbrev pub difference_falls_clause : List Term
difference_falls_clause = (call2 "ORD-LESSP" (call1 "COUNT" (call2 "DIFFERENCE" (variable "X") (variable "Y"))) (call1 "COUNT" (variable "X"))) ∷ (call1 "NOT" (call3 "IF" (call1 "ZEROP" (variable "Y")) (call0 "FALSE") (call3 "IF" (call2 "LESSP" (variable "X") (variable "Y")) (call0 "FALSE") (call0 "TRUE")))) ∷ []

-- (ZEROP Y), (ZEROP X), (NOT (LESSP X Z)), (LESSP (DIFFERENCE X Y) Z)
abbrev pub difference_keeps_less_clause : List Term
difference_keeps_less_clause = (call1 "ZEROP" (variable "Y")) ∷ (call1 "ZEROP" (variable "X")) ∷ (call1 "NOT" (call2 "LESSP" (variable "X") (variable "Z"))) ∷ (call2 "LESSP" (call2 "DIFFERENCE" (variable "X") (variable "Y")) (variable "Z")) ∷ []
