-- Evaluation at work. Each expected value comes from the meaning of the functions, and each number of calls is counted by hand.
use Rattle.std.specs.Prelude.{◌≡◌, ℕ, zero, suc, List, [], ◌∷◌, codes, Some, None}
use Rattle.nq_logic.specs.Terms.{Term, Function, Applied}
use Rattle.nq_logic.specs.Words.{call0, call1, call2, true_term, false_term, if_term, equal_term, not_term, add1_term, zero_term, numeral, literal_atom}
use Rattle.nq_logic.specs.Histories.{History, Event, Shell, OneOf, AddShell, Declaration, Defines}
use Rattle.nq_logic.specs.Ground.{defines1, x_term}
use Rattle.nq_fragments.specs.Outcomes.{Reached, BlockedAt, OutOfFuel}
use Rattle.nq_fragments.specs.Evaluation.{outcome_within, outcome_of, HasGroundValue, HasTrueValue}

-- (DOUBLE X) is (PLUS X X)
abbrev pub doubling : History
doubling = Defines (defines1 "DOUBLE" "X" (call2 "PLUS" x_term x_term)) ∷ []

-- (E X) has no definition
abbrev pub declaring : History
declaring = Declaration (codes "E") 1 ∷ []

-- (TWICE X) opens (DOUBLE X), and so is two calls, one within the other
abbrev pub nested : History
nested = Defines (defines1 "TWICE" "X" (call1 "DOUBLE" x_term)) ∷ doubling

-- (G X) opens itself without end; no history admits it
abbrev pub endless : History
endless = Defines (defines1 "G" "X" (call1 "G" x_term)) ∷ []

-- each of these functions is named by a number
abbrev numbered : ℕ → List ℕ
numbered k = 70 ∷ k ∷ []

abbrev pub call_numbered : ℕ → Term
call_numbered k = Applied (Function (numbered k)) x_term

abbrev defines_numbered : ℕ → Term → Event
defines_numbered k body = Defines (record { function = numbered k; formals = codes "X" ∷ []; body = body; measure = None })

-- each opens the one before it, so that the last is nested as deep as its number, and one more
abbrev pub chain : ℕ → History
chain zero = defines_numbered 0 x_term ∷ []
chain (suc k) = defines_numbered (suc k) (call_numbered k) ∷ chain k

-- the last of these functions, of T
abbrev pub last_of : ℕ → Term
last_of k = Applied (Function (numbered k)) true_term

-- a shell with a base and one part, which is such a box or the base
abbrev pub boxes : Shell
boxes = record { constructor = codes "BOX"; base = Some (codes "EMPTY"); recognizer = codes "BOXP"; parts = record { accessor = codes "UNBOX"; restriction = OneOf (codes "BOXP" ∷ []); default = codes "EMPTY" } ∷ [] }

abbrev pub boxing : History
boxing = AddShell boxes ∷ []

abbrev n : ℕ → Term
n k = numeral k

abbrev pair : Term → Term → Term
pair a b = call2 "CONS" a b

abbrev nil : Term
nil = literal_atom "NIL"

-- the list of these, ended by NIL
abbrev list : List Term → Term
list [] = nil
list (a ∷ rest) = pair a (list rest)

abbrev count_of : Term → Term
count_of a = call1 "COUNT" a

-- a row of the table costs no call
pub record SumsHaveValues : Type 0 where
  pub sum : outcome_of [] (call2 "PLUS" (n 2) (n 3)) ≡ Reached (n 5) 10000
  pub within : outcome_of [] (call2 "TIMES" (call2 "PLUS" (n 1) (n 2)) (call1 "SUB1" (n 5))) ≡ Reached (n 12) 10000
  pub false_sum : outcome_of [] (equal_term (call2 "PLUS" (n 2) (n 2)) (n 5)) ≡ Reached false_term 10000
  pub less : outcome_of [] (call2 "LESSP" (n 2) (n 3)) ≡ Reached true_term 10000

-- an opened definition is one call
pub record DefinitionsAreOpened : Type 0 where
  pub lemma : outcome_of doubling (equal_term (call1 "DOUBLE" (n 2)) (n 4)) ≡ Reached true_term 9999
  pub value : outcome_of doubling (call1 "DOUBLE" (n 21)) ≡ Reached (n 42) 9999
  pub twice : outcome_of doubling (call1 "DOUBLE" (call1 "DOUBLE" (n 1))) ≡ Reached (n 4) 9998
  pub inner : outcome_of nested (call1 "TWICE" (n 3)) ≡ Reached (n 6) 9998

-- a function that calls itself is a call at each opening
pub record RecursionIsOpened : Type 0 where
  pub append : outcome_of [] (call2 "APPEND" (list (n 1 ∷ n 2 ∷ [])) (list (n 3 ∷ []))) ≡ Reached (list (n 1 ∷ n 2 ∷ n 3 ∷ [])) 9997
  pub member : outcome_of [] (call2 "MEMBER" (n 2) (list (n 1 ∷ n 2 ∷ n 3 ∷ []))) ≡ Reached true_term 9998
  pub ordinal : outcome_of [] (call1 "ORDINALP" (pair (n 1) (n 0))) ≡ Reached true_term 9996

-- values are found by restrictions and defaults; a value is its own
pub record ShellsHaveValues : Type 0 where
  pub minus_of_truth : outcome_of [] (equal_term (call1 "MINUS" true_term) (call1 "MINUS" (n 0))) ≡ Reached true_term 10000
  pub successor_of_nil : outcome_of [] (equal_term (add1_term nil) (n 1)) ≡ Reached true_term 10000
  pub minus_of_zero : outcome_of [] (not_term (equal_term (call1 "MINUS" (n 0)) (n 0))) ≡ Reached true_term 10000
  pub pair_of_list : outcome_of [] (pair (list (n 1 ∷ literal_atom "A" ∷ [])) (n 1)) ≡ Reached (pair (list (n 1 ∷ literal_atom "A" ∷ [])) (n 1)) 10000
  pub part : outcome_of [] (call1 "CAR" (call1 "CDR" (list (n 1 ∷ n 2 ∷ [])))) ≡ Reached (n 2) 10000

-- IF leaves its other side alone; AND does not
pub record OneSideIsTaken : Type 0 where
  pub first : outcome_of [] (if_term true_term (n 1) (count_of true_term)) ≡ Reached (n 1) 10000
  pub second : outcome_of [] (if_term false_term (count_of true_term) (n 2)) ≡ Reached (n 2) 10000
  pub any_value : outcome_of [] (if_term zero_term (n 1) (count_of true_term)) ≡ Reached (n 1) 10000
  pub test : outcome_of [] (if_term (count_of false_term) (n 1) (n 2)) ≡ BlockedAt (count_of false_term)
  pub and : outcome_of [] (call2 "AND" false_term (count_of true_term)) ≡ BlockedAt (count_of true_term)

-- COUNT of a pair, an atom and a negative number is a call; of a number it is none
pub record SizesAreOpened : Type 0 where
  pub number : outcome_of [] (count_of (n 5)) ≡ Reached (n 5) 10000
  pub of_pair : outcome_of [] (count_of (pair (n 1) (n 2))) ≡ Reached (n 4) 9999
  pub of_negative : outcome_of [] (count_of (call1 "MINUS" (n 3))) ≡ Reached (n 4) 9999
  pub of_atom : outcome_of [] (count_of (call1 "PACK" (pair (n 7) (n 0)))) ≡ Reached (n 9) 9998
  pub truth : outcome_of [] (count_of true_term) ≡ BlockedAt (count_of true_term)
  pub within : outcome_of [] (count_of (pair (n 1) false_term)) ≡ BlockedAt (count_of false_term)

-- what has no value is told as a call on values, the first that is met
pub record DeclaredFunctionsBlock : Type 0 where
  pub declared : outcome_of declaring (call1 "E" (call2 "PLUS" (n 1) (n 2))) ≡ BlockedAt (call1 "E" (n 3))
  pub leftmost : outcome_of declaring (call2 "PLUS" (call1 "E" (n 1)) (count_of true_term)) ≡ BlockedAt (call1 "E" (n 1))
  pub argument : outcome_of declaring (call1 "E" (count_of true_term)) ≡ BlockedAt (count_of true_term)
  pub users_base : outcome_of boxing (count_of (call1 "BOX" (call0 "EMPTY"))) ≡ BlockedAt (call0 "EMPTY")
  pub users_shell : outcome_of boxing (count_of (call1 "BOX" (n 1))) ≡ BlockedAt (call1 "BOX" (n 1))
  pub users_recognizer : outcome_of boxing (call1 "BOXP" true_term) ≡ BlockedAt (call1 "BOXP" true_term)

-- 400 openings may stand one within another
abbrev pub DeepestNesting : Type 0
DeepestNesting = outcome_of (chain 399) (last_of 399) ≡ Reached true_term 9600

abbrev pub DeeperNesting : Type 0
DeeperNesting = outcome_of (chain 400) (last_of 400) ≡ OutOfFuel

-- 10,000 calls may be made, and what comes first tells
pub record FuelEnds : Type 0 where
  pub endless_calls : outcome_of endless (call1 "G" (n 0)) ≡ OutOfFuel
  pub last_call : outcome_within doubling 1 (call1 "DOUBLE" (n 2)) 1 ≡ Reached (n 4) 0
  pub one_too_many : outcome_within doubling 1 (call1 "DOUBLE" (n 2)) 0 ≡ OutOfFuel
  pub row_after_all : outcome_within doubling 1 (call2 "PLUS" (n 2) (n 2)) 0 ≡ Reached (n 4) 0
  pub side_by_side : outcome_within doubling 1 (call2 "PLUS" (call1 "DOUBLE" (n 1)) (call1 "DOUBLE" (n 2))) 2 ≡ Reached (n 6) 0
  pub blocked_first : outcome_of endless (pair (count_of true_term) (call1 "G" (n 0))) ≡ BlockedAt (count_of true_term)
  pub fuel_first : outcome_of endless (pair (call1 "G" (n 0)) (count_of true_term)) ≡ OutOfFuel

-- lemmas that are proved by evaluation, one that is false, and others
pub record FragmentHolds : Type 0 where
  pub double : HasTrueValue doubling (equal_term (call1 "DOUBLE" (n 2)) (n 4))
  pub false_sum : HasGroundValue [] (equal_term (call2 "PLUS" (n 2) (n 2)) (n 5)) false_term
  pub no_false_sum : HasTrueValue [] (equal_term (call2 "PLUS" (n 2) (n 2)) (n 5)) → ⊥
  pub no_variable : HasTrueValue [] (equal_term x_term x_term) → ⊥
