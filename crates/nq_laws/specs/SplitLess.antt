-- Laws of LESSP split at a number between, as clauses.
use Rattle.std.specs.Prelude.{List, [], ◌∷◌}
use Rattle.nq_logic.specs.Terms.{Term}
use Rattle.nq_logic.specs.Words.{variable, call1, call2}

-- (IMPLIES (LESSP X Z) (OR (LESSP X Y) (LESSP Y Z)))
abbrev pub less_is_split_as_term_clause : List Term
less_is_split_as_term_clause = (call2 "IMPLIES" (call2 "LESSP" (variable "X") (variable "Z")) (call2 "OR" (call2 "LESSP" (variable "X") (variable "Y")) (call2 "LESSP" (variable "Y") (variable "Z")))) ∷ []

-- (LESSP Y Z), (LESSP X Y), (NOT (LESSP X Z))
abbrev pub less_is_split_clause : List Term
less_is_split_clause = (call2 "LESSP" (variable "Y") (variable "Z")) ∷ (call2 "LESSP" (variable "X") (variable "Y")) ∷ (call1 "NOT" (call2 "LESSP" (variable "X") (variable "Z"))) ∷ []

-- all of these laws
abbrev pub laws_of_split_less : List (List Term)
laws_of_split_less = less_is_split_as_term_clause ∷ less_is_split_clause ∷ []
