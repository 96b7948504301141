-- Laws of IMPLIES, IFF and IF on truth values, as clauses.
use Rattle.std.specs.Prelude.{List, [], ◌∷◌}
use Rattle.nq_logic.specs.Terms.{Term}
use Rattle.nq_logic.specs.Words.{variable, call0, call1, call2, call3}

-- (EQUAL (IMPLIES F Y) T)
abbrev pub implies_from_falsity_clause : List Term
implies_from_falsity_clause = (call2 "EQUAL" (call2 "IMPLIES" (call0 "FALSE") (variable "Y")) (call0 "TRUE")) ∷ []

-- (NOT Y), (NOT X), (EQUAL (IMPLIES X Y) T)
abbrev pub implies_of_truths_clause : List Term
implies_of_truths_clause = (call1 "NOT" (variable "Y")) ∷ (call1 "NOT" (variable "X")) ∷ (call2 "EQUAL" (call2 "IMPLIES" (variable "X") (variable "Y")) (call0 "TRUE")) ∷ []

-- (NOT X), (EQUAL (IMPLIES X F) F)
abbrev pub implies_to_falsity_clause : List Term
implies_to_falsity_clause = (call1 "NOT" (variable "X")) ∷ (call2 "EQUAL" (call2 "IMPLIES" (variable "X") (call0 "FALSE")) (call0 "FALSE")) ∷ []

-- (NOT Y), (NOT X), (EQUAL (IFF X Y) T)
abbrev pub iff_of_truths_clause : List Term
iff_of_truths_clause = (call1 "NOT" (variable "Y")) ∷ (call1 "NOT" (variable "X")) ∷ (call2 "EQUAL" (call2 "IFF" (variable "X") (variable "Y")) (call0 "TRUE")) ∷ []

-- (EQUAL (IFF F F) T)
abbrev pub iff_of_falsities_clause : List Term
iff_of_falsities_clause = (call2 "EQUAL" (call2 "IFF" (call0 "FALSE") (call0 "FALSE")) (call0 "TRUE")) ∷ []

-- (NOT X), (EQUAL (IFF X F) F)
abbrev pub iff_of_first_truth_clause : List Term
iff_of_first_truth_clause = (call1 "NOT" (variable "X")) ∷ (call2 "EQUAL" (call2 "IFF" (variable "X") (call0 "FALSE")) (call0 "FALSE")) ∷ []

-- (NOT Y), (EQUAL (IFF F Y) F)
abbrev pub iff_of_second_truth_clause : List Term
iff_of_second_truth_clause = (call1 "NOT" (variable "Y")) ∷ (call2 "EQUAL" (call2 "IFF" (call0 "FALSE") (variable "Y")) (call0 "FALSE")) ∷ []

-- (EQUAL (IF F Y Z) Z)
abbrev pub if_of_falsity_clause : List Term
if_of_falsity_clause = (call2 "EQUAL" (call3 "IF" (call0 "FALSE") (variable "Y") (variable "Z")) (variable "Z")) ∷ []

-- all of these laws
abbrev pub laws_of_implications : List (List Term)
laws_of_implications = implies_from_falsity_clause ∷ implies_of_truths_clause ∷ implies_to_falsity_clause ∷ iff_of_truths_clause ∷ iff_of_falsities_clause ∷ iff_of_first_truth_clause ∷ iff_of_second_truth_clause ∷ if_of_falsity_clause ∷ []
