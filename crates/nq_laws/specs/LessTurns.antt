-- Laws of LESSP turned into the other order, as clauses.
use Rattle.std.specs.Prelude.{List, [], ◌∷◌}
use Rattle.nq_logic.specs.Terms.{Term}
use Rattle.nq_logic.specs.Words.{variable, call1, call2}

-- (EQUAL (LESSP X (FIX Y)) (LESSP X Y))
abbrev pub less_with_fix_clause : List Term
less_with_fix_clause = (call2 "EQUAL" (call2 "LESSP" (variable "X") (call1 "FIX" (variable "Y"))) (call2 "LESSP" (variable "X") (variable "Y"))) ∷ []

-- (EQUAL (SUB1 (ADD1 X)) (FIX X))
abbrev pub sub1_of_any_add1_clause : List Term
sub1_of_any_add1_clause = (call2 "EQUAL" (call1 "SUB1" (call1 "ADD1" (variable "X"))) (call1 "FIX" (variable "X"))) ∷ []

-- (ZEROP B), (EQUAL (LESSP B (ADD1 A)) (LESSP (SUB1 B) A))
abbrev pub less_than_add1_clause : List Term
less_than_add1_clause = (call1 "ZEROP" (variable "B")) ∷ (call2 "EQUAL" (call2 "LESSP" (variable "B") (call1 "ADD1" (variable "A"))) (call2 "LESSP" (call1 "SUB1" (variable "B")) (variable "A"))) ∷ []

-- (IMPLIES (LESSP A B) (NOT (LESSP B (ADD1 A))))
abbrev pub less_turns_as_term_clause : List Term
less_turns_as_term_clause = (call2 "IMPLIES" (call2 "LESSP" (variable "A") (variable "B")) (call1 "NOT" (call2 "LESSP" (variable "B") (call1 "ADD1" (variable "A"))))) ∷ []

-- (NOT (LESSP A B)), (NOT (LESSP B (ADD1 A)))
abbrev pub less_turns_clause : List Term
less_turns_clause = (call1 "NOT" (call2 "LESSP" (variable "A") (variable "B"))) ∷ (call1 "NOT" (call2 "LESSP" (variable "B") (call1 "ADD1" (variable "A")))) ∷ []

-- all of these laws
abbrev pub laws_of_less_turns : List (List Term)
laws_of_less_turns = less_with_fix_clause ∷ sub1_of_any_add1_clause ∷ less_than_add1_clause ∷ less_turns_as_term_clause ∷ less_turns_clause ∷ []
