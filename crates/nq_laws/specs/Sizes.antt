-- Laws of COUNT, as clauses.
use Rattle.std.specs.Prelude.{List, [], ◌∷◌}
use Rattle.nq_logic.specs.Terms.{Term}
use Rattle.nq_logic.specs.Words.{variable, call1, call2}

-- (LESSP X (ADD1 (PLUS X Y)))
abbrev pub less_than_sum_clause : List Term
less_than_sum_clause = (call2 "LESSP" (variable "X") (call1 "ADD1" (call2 "PLUS" (variable "X") (variable "Y")))) ∷ []

-- (NOT (LISTP X)), (EQUAL (COUNT X) (ADD1 (PLUS (COUNT (CAR X)) (COUNT (CDR X)))))
abbrev pub size_of_pair_clause : List Term
size_of_pair_clause = (call1 "NOT" (call1 "LISTP" (variable "X"))) ∷ (call2 "EQUAL" (call1 "COUNT" (variable "X")) (call1 "ADD1" (call2 "PLUS" (call1 "COUNT" (call1 "CAR" (variable "X"))) (call1 "COUNT" (call1 "CDR" (variable "X")))))) ∷ []

-- (NOT (LISTP X)), (LESSP (COUNT (CAR X)) (COUNT X))
abbrev pub first_is_smaller_clause : List Term
first_is_smaller_clause = (call1 "NOT" (call1 "LISTP" (variable "X"))) ∷ (call2 "LESSP" (call1 "COUNT" (call1 "CAR" (variable "X"))) (call1 "COUNT" (variable "X"))) ∷ []

-- (NOT (LISTP X)), (LESSP (COUNT (CDR X)) (COUNT X))
abbrev pub rest_is_smaller_clause : List Term
rest_is_smaller_clause = (call1 "NOT" (call1 "LISTP" (variable "X"))) ∷ (call2 "LESSP" (call1 "COUNT" (call1 "CDR" (variable "X"))) (call1 "COUNT" (variable "X"))) ∷ []

-- all of these laws
abbrev pub laws_of_sizes : List (List Term)
laws_of_sizes = less_than_sum_clause ∷ size_of_pair_clause ∷ first_is_smaller_clause ∷ rest_is_smaller_clause ∷ []
