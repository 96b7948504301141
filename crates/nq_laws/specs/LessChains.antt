-- Laws of chains of LESSP, and its steps on numerals, as clauses.
use Rattle.std.specs.Prelude.{List, [], ◌∷◌}
use Rattle.nq_logic.specs.Terms.{Term}
use Rattle.nq_logic.specs.Words.{variable, call0, call1, call2}

-- (IMPLIES (LESSP X Y) (IMPLIES (LESSP Y Z) (LESSP X Z)))
abbrev pub less_is_transitive_as_term_clause : List Term
less_is_transitive_as_term_clause = (call2 "IMPLIES" (call2 "LESSP" (variable "X") (variable "Y")) (call2 "IMPLIES" (call2 "LESSP" (variable "Y") (variable "Z")) (call2 "LESSP" (variable "X") (variable "Z")))) ∷ []

-- (NOT (LESSP Y Z)), (NOT (LESSP X Y)), (LESSP X Z)
abbrev pub less_is_transitive_clause : List Term
less_is_transitive_clause = (call1 "NOT" (call2 "LESSP" (variable "Y") (variable "Z"))) ∷ (call1 "NOT" (call2 "LESSP" (variable "X") (variable "Y"))) ∷ (call2 "LESSP" (variable "X") (variable "Z")) ∷ []

-- (EQUAL (LESSP 0 (ADD1 Y)) T)
abbrev pub zero_less_than_add1_clause : List Term
zero_less_than_add1_clause = (call2 "EQUAL" (call2 "LESSP" (call0 "ZERO") (call1 "ADD1" (variable "Y"))) (call0 "TRUE")) ∷ []

-- (NOT (NUMBERP A)), (NOT (NUMBERP B)), (NOT (EQUAL (LESSP A B) C)), (EQUAL (LESSP (ADD1 A) (ADD1 B)) C)
abbrev pub less_step_clause : List Term
less_step_clause = (call1 "NOT" (call1 "NUMBERP" (variable "A"))) ∷ (call1 "NOT" (call1 "NUMBERP" (variable "B"))) ∷ (call1 "NOT" (call2 "EQUAL" (call2 "LESSP" (variable "A") (variable "B")) (variable "C"))) ∷ (call2 "EQUAL" (call2 "LESSP" (call1 "ADD1" (variable "A")) (call1 "ADD1" (variable "B"))) (variable "C")) ∷ []

-- all of these laws
abbrev pub laws_of_less_chains : List (List Term)
laws_of_less_chains = less_is_transitive_as_term_clause ∷ less_is_transitive_clause ∷ zero_less_than_add1_clause ∷ less_step_clause ∷ []
