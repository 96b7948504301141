-- Laws of sums and multiples whose two sides agree, as clauses.
use Rattle.std.specs.Prelude.{List, [], ◌∷◌}
use Rattle.nq_logic.specs.Terms.{Term}
use Rattle.nq_logic.specs.Words.{variable, call1, call2}

-- (NOT (EQUAL (PLUS A N) (PLUS B P))), (NOT (EQUAL (PLUS C N2) (PLUS D P2))), (NOT (EQUAL (PLUS (PLUS P P2) N3) (PLUS P3 (PLUS N N2)))), (EQUAL (PLUS (PLUS A C) N3) (PLUS (PLUS B D) P3))
abbrev pub sum_balances_clause : List Term
sum_balances_clause = (call1 "NOT" (call2 "EQUAL" (call2 "PLUS" (variable "A") (variable "N")) (call2 "PLUS" (variable "B") (variable "P")))) ∷ (call1 "NOT" (call2 "EQUAL" (call2 "PLUS" (variable "C") (variable "N2")) (call2 "PLUS" (variable "D") (variable "P2")))) ∷ (call1 "NOT" (call2 "EQUAL" (call2 "PLUS" (call2 "PLUS" (variable "P") (variable "P2")) (variable "N3")) (call2 "PLUS" (variable "P3") (call2 "PLUS" (variable "N") (variable "N2"))))) ∷ (call2 "EQUAL" (call2 "PLUS" (call2 "PLUS" (variable "A") (variable "C")) (variable "N3")) (call2 "PLUS" (call2 "PLUS" (variable "B") (variable "D")) (variable "P3"))) ∷ []

-- (NOT (EQUAL (PLUS A N) (PLUS B P))), (NOT (EQUAL (TIMES K N) N2)), (NOT (EQUAL (TIMES K P) P2)), (EQUAL (PLUS (TIMES K A) N2) (PLUS (TIMES K B) P2))
abbrev pub multiple_balances_clause : List Term
multiple_balances_clause = (call1 "NOT" (call2 "EQUAL" (call2 "PLUS" (variable "A") (variable "N")) (call2 "PLUS" (variable "B") (variable "P")))) ∷ (call1 "NOT" (call2 "EQUAL" (call2 "TIMES" (variable "K") (variable "N")) (variable "N2"))) ∷ (call1 "NOT" (call2 "EQUAL" (call2 "TIMES" (variable "K") (variable "P")) (variable "P2"))) ∷ (call2 "EQUAL" (call2 "PLUS" (call2 "TIMES" (variable "K") (variable "A")) (variable "N2")) (call2 "PLUS" (call2 "TIMES" (variable "K") (variable "B")) (variable "P2"))) ∷ []

-- (NOT (EQUAL (TIMES K C) M)), (NOT (EQUAL (TIMES K R) S)), (EQUAL (TIMES K (PLUS (TIMES C E) R)) (PLUS (TIMES M E) S))
abbrev pub multiple_of_atom_clause : List Term
multiple_of_atom_clause = (call1 "NOT" (call2 "EQUAL" (call2 "TIMES" (variable "K") (variable "C")) (variable "M"))) ∷ (call1 "NOT" (call2 "EQUAL" (call2 "TIMES" (variable "K") (variable "R")) (variable "S"))) ∷ (call2 "EQUAL" (call2 "TIMES" (variable "K") (call2 "PLUS" (call2 "TIMES" (variable "C") (variable "E")) (variable "R"))) (call2 "PLUS" (call2 "TIMES" (variable "M") (variable "E")) (variable "S"))) ∷ []

-- (NOT (EQUAL (TIMES K C) M)), (NOT (EQUAL (TIMES K R) S)), (EQUAL (TIMES K (PLUS C R)) (PLUS M S))
abbrev pub multiple_of_constant_clause : List Term
multiple_of_constant_clause = (call1 "NOT" (call2 "EQUAL" (call2 "TIMES" (variable "K") (variable "C")) (variable "M"))) ∷ (call1 "NOT" (call2 "EQUAL" (call2 "TIMES" (variable "K") (variable "R")) (variable "S"))) ∷ (call2 "EQUAL" (call2 "TIMES" (variable "K") (call2 "PLUS" (variable "C") (variable "R"))) (call2 "PLUS" (variable "M") (variable "S"))) ∷ []

-- all of these laws
abbrev pub laws_of_balances : List (List Term)
laws_of_balances = sum_balances_clause ∷ multiple_balances_clause ∷ multiple_of_atom_clause ∷ multiple_of_constant_clause ∷ []
