-- Laws of numbers, products and sums as two sides that agree, as clauses.
use Rattle.std.specs.Prelude.{List, [], ◌∷◌}
use Rattle.nq_logic.specs.Terms.{Term}
use Rattle.nq_logic.specs.Words.{variable, call0, call1, call2}

-- (EQUAL (PLUS A (PLUS 0 0)) (PLUS 0 (PLUS A 0)))
abbrev pub constant_balances_clause : List Term
constant_balances_clause = (call2 "EQUAL" (call2 "PLUS" (variable "A") (call2 "PLUS" (call0 "ZERO") (call0 "ZERO"))) (call2 "PLUS" (call0 "ZERO") (call2 "PLUS" (variable "A") (call0 "ZERO")))) ∷ []

-- (EQUAL (PLUS 0 (PLUS A 0)) (PLUS A (PLUS 0 0)))
abbrev pub negative_constant_balances_clause : List Term
negative_constant_balances_clause = (call2 "EQUAL" (call2 "PLUS" (call0 "ZERO") (call2 "PLUS" (variable "A") (call0 "ZERO"))) (call2 "PLUS" (variable "A") (call2 "PLUS" (call0 "ZERO") (call0 "ZERO")))) ∷ []

-- (EQUAL (PLUS E (PLUS 0 (PLUS (TIMES 0 E) 0))) (PLUS 0 (PLUS 0 (PLUS (TIMES (ADD1 0) E) 0))))
abbrev pub atom_balances_clause : List Term
atom_balances_clause = (call2 "EQUAL" (call2 "PLUS" (variable "E") (call2 "PLUS" (call0 "ZERO") (call2 "PLUS" (call2 "TIMES" (call0 "ZERO") (variable "E")) (call0 "ZERO")))) (call2 "PLUS" (call0 "ZERO") (call2 "PLUS" (call0 "ZERO") (call2 "PLUS" (call2 "TIMES" (call1 "ADD1" (call0 "ZERO")) (variable "E")) (call0 "ZERO"))))) ∷ []

-- (NOT (EQUAL (PLUS (PLUS A B) N) (PLUS (PLUS 0 0) P))), (EQUAL (PLUS (PLUS A B) N) (PLUS 0 P))
abbrev pub sum_balances_alone_clause : List Term
sum_balances_alone_clause = (call1 "NOT" (call2 "EQUAL" (call2 "PLUS" (call2 "PLUS" (variable "A") (variable "B")) (variable "N")) (call2 "PLUS" (call2 "PLUS" (call0 "ZERO") (call0 "ZERO")) (variable "P")))) ∷ (call2 "EQUAL" (call2 "PLUS" (call2 "PLUS" (variable "A") (variable "B")) (variable "N")) (call2 "PLUS" (call0 "ZERO") (variable "P"))) ∷ []

-- (NOT (EQUAL (PLUS (PLUS E (ADD1 0)) N) (PLUS (PLUS 0 0) P))), (EQUAL (PLUS (ADD1 E) N) (PLUS 0 P))
abbrev pub add1_balances_clause : List Term
add1_balances_clause = (call1 "NOT" (call2 "EQUAL" (call2 "PLUS" (call2 "PLUS" (variable "E") (call1 "ADD1" (call0 "ZERO"))) (variable "N")) (call2 "PLUS" (call2 "PLUS" (call0 "ZERO") (call0 "ZERO")) (variable "P")))) ∷ (call2 "EQUAL" (call2 "PLUS" (call1 "ADD1" (variable "E")) (variable "N")) (call2 "PLUS" (call0 "ZERO") (variable "P"))) ∷ []

-- (NOT (EQUAL (PLUS (TIMES K B) N) (PLUS (TIMES K 0) P))), (EQUAL (PLUS (TIMES K B) N) (PLUS 0 P))
abbrev pub product_balances_clause : List Term
product_balances_clause = (call1 "NOT" (call2 "EQUAL" (call2 "PLUS" (call2 "TIMES" (variable "K") (variable "B")) (variable "N")) (call2 "PLUS" (call2 "TIMES" (variable "K") (call0 "ZERO")) (variable "P")))) ∷ (call2 "EQUAL" (call2 "PLUS" (call2 "TIMES" (variable "K") (variable "B")) (variable "N")) (call2 "PLUS" (call0 "ZERO") (variable "P"))) ∷ []

-- (NOT (EQUAL (PLUS (TIMES K B) N) (PLUS (TIMES K 0) P))), (EQUAL (PLUS (TIMES B K) N) (PLUS 0 P))
abbrev pub product_balances_turned_clause : List Term
product_balances_turned_clause = (call1 "NOT" (call2 "EQUAL" (call2 "PLUS" (call2 "TIMES" (variable "K") (variable "B")) (variable "N")) (call2 "PLUS" (call2 "TIMES" (variable "K") (call0 "ZERO")) (variable "P")))) ∷ (call2 "EQUAL" (call2 "PLUS" (call2 "TIMES" (variable "B") (variable "K")) (variable "N")) (call2 "PLUS" (call0 "ZERO") (variable "P"))) ∷ []

-- (NOT (EQUAL X Z)), (NOT (EQUAL Y Z)), (EQUAL X Y)
abbrev pub equal_through_clause : List Term
equal_through_clause = (call1 "NOT" (call2 "EQUAL" (variable "X") (variable "Z"))) ∷ (call1 "NOT" (call2 "EQUAL" (variable "Y") (variable "Z"))) ∷ (call2 "EQUAL" (variable "X") (variable "Y")) ∷ []

-- (NOT (EQUAL (PLUS A B) C)), (NOT (EQUAL (PLUS C D) E)), (EQUAL (PLUS (PLUS A B) D) E)
abbrev pub sum_on_the_left_clause : List Term
sum_on_the_left_clause = (call1 "NOT" (call2 "EQUAL" (call2 "PLUS" (variable "A") (variable "B")) (variable "C"))) ∷ (call1 "NOT" (call2 "EQUAL" (call2 "PLUS" (variable "C") (variable "D")) (variable "E"))) ∷ (call2 "EQUAL" (call2 "PLUS" (call2 "PLUS" (variable "A") (variable "B")) (variable "D")) (variable "E")) ∷ []

-- (NOT (EQUAL (PLUS B C) D)), (NOT (EQUAL (PLUS A D) E)), (EQUAL (PLUS A (PLUS B C)) E)
abbrev pub sum_on_the_right_clause : List Term
sum_on_the_right_clause = (call1 "NOT" (call2 "EQUAL" (call2 "PLUS" (variable "B") (variable "C")) (variable "D"))) ∷ (call1 "NOT" (call2 "EQUAL" (call2 "PLUS" (variable "A") (variable "D")) (variable "E"))) ∷ (call2 "EQUAL" (call2 "PLUS" (variable "A") (call2 "PLUS" (variable "B") (variable "C"))) (variable "E")) ∷ []

-- (NOT (EQUAL X Y)), (EQUAL Y X)
abbrev pub equation_turns_clause : List Term
equation_turns_clause = (call1 "NOT" (call2 "EQUAL" (variable "X") (variable "Y"))) ∷ (call2 "EQUAL" (variable "Y") (variable "X")) ∷ []

-- all of these laws
abbrev pub laws_of_balanced : List (List Term)
laws_of_balanced = constant_balances_clause ∷ negative_constant_balances_clause ∷ atom_balances_clause ∷ sum_balances_alone_clause ∷ add1_balances_clause ∷ product_balances_clause ∷ product_balances_turned_clause ∷ equal_through_clause ∷ sum_on_the_left_clause ∷ sum_on_the_right_clause ∷ equation_turns_clause ∷ []
