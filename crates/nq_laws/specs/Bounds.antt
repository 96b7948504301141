-- Laws of comparisons of sums, as clauses.
use Rattle.std.specs.Prelude.{List, [], ◌∷◌}
use Rattle.nq_logic.specs.Terms.{Term}
use Rattle.nq_logic.specs.Words.{variable, call0, call1, call2}

-- (LESSP A B), (LESSP C D), (NOT (LESSP (PLUS A C) (PLUS B D)))
abbrev pub sums_not_less_clause : List Term
sums_not_less_clause = (call2 "LESSP" (variable "A") (variable "B")) ∷ (call2 "LESSP" (variable "C") (variable "D")) ∷ (call1 "NOT" (call2 "LESSP" (call2 "PLUS" (variable "A") (variable "C")) (call2 "PLUS" (variable "B") (variable "D")))) ∷ []

-- (OR (LESSP A B) (NOT (LESSP (TIMES K A) (TIMES K B))))
abbrev pub multiples_not_less_as_term_clause : List Term
multiples_not_less_as_term_clause = (call2 "OR" (call2 "LESSP" (variable "A") (variable "B")) (call1 "NOT" (call2 "LESSP" (call2 "TIMES" (variable "K") (variable "A")) (call2 "TIMES" (variable "K") (variable "B"))))) ∷ []

-- (LESSP A B), (NOT (LESSP (TIMES K A) (TIMES K B)))
abbrev pub multiples_not_less_clause : List Term
multiples_not_less_clause = (call2 "LESSP" (variable "A") (variable "B")) ∷ (call1 "NOT" (call2 "LESSP" (call2 "TIMES" (variable "K") (variable "A")) (call2 "TIMES" (variable "K") (variable "B")))) ∷ []

-- (NOT (LESSP 0 0))
abbrev pub nothing_less_than_itself_clause : List Term
nothing_less_than_itself_clause = (call1 "NOT" (call2 "LESSP" (call0 "ZERO") (call0 "ZERO"))) ∷ []

-- (LESSP A B), (NOT (LESSP (PLUS A 0) (PLUS 0 B)))
abbrev pub bound_of_less_clause : List Term
bound_of_less_clause = (call2 "LESSP" (variable "A") (variable "B")) ∷ (call1 "NOT" (call2 "LESSP" (call2 "PLUS" (variable "A") (call0 "ZERO")) (call2 "PLUS" (call0 "ZERO") (variable "B")))) ∷ []

-- (NOT (EQUAL A B)), (NOT (LESSP (PLUS A 0) (PLUS 0 B)))
abbrev pub bound_of_equation_clause : List Term
bound_of_equation_clause = (call1 "NOT" (call2 "EQUAL" (variable "A") (variable "B"))) ∷ (call1 "NOT" (call2 "LESSP" (call2 "PLUS" (variable "A") (call0 "ZERO")) (call2 "PLUS" (call0 "ZERO") (variable "B")))) ∷ []

-- (NOT (EQUAL A B)), (NOT (LESSP (PLUS B 0) (PLUS 0 A)))
abbrev pub bound_of_equation_turned_clause : List Term
bound_of_equation_turned_clause = (call1 "NOT" (call2 "EQUAL" (variable "A") (variable "B"))) ∷ (call1 "NOT" (call2 "LESSP" (call2 "PLUS" (variable "B") (call0 "ZERO")) (call2 "PLUS" (call0 "ZERO") (variable "A")))) ∷ []

-- all of these laws
abbrev pub laws_of_bounds : List (List Term)
laws_of_bounds = sums_not_less_clause ∷ multiples_not_less_as_term_clause ∷ multiples_not_less_clause ∷ nothing_less_than_itself_clause ∷ bound_of_less_clause ∷ bound_of_equation_clause ∷ bound_of_equation_turned_clause ∷ []
