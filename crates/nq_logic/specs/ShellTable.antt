-- The clauses of the ground shells and of one more, written out row by row.
use Rattle.std.specs.Prelude.{◌≡◌, ℕ, ◌==◌, Bool, false, ◌||◌, List, [], ◌∷◌, Some, None, codes}
use Rattle.nq_logic.specs.Terms.{Term, Each}
use Rattle.nq_logic.specs.Words.{variable, call0, call1, call2, true_term, false_term, if_term, equal_term, not_term, or_term, zero_term, add1_term}
use Rattle.nq_logic.specs.Histories.{Shell, OneOf, NoneOf}
use Rattle.nq_logic.specs.Ground.{numbers, pairs, atoms, negatives, ground_shells, x_term}
use Rattle.nq_logic.specs.Shells.{IsShellClause}

-- a row of the table: its number, the number of the part or the earlier shell, and the clause
abbrev Row : Type 0
Row = ℕ × ℕ × List Term

-- each of these is a clause of the shell
abbrev pub AreRows : List Shell → Shell → List Row → Type 0
AreRows earlier s rows = Each (λ row. IsShellClause earlier s row.0 row.1 row.2) rows

abbrev x1 : Term
x1 = variable "X1"

abbrev x2 : Term
x2 = variable "X2"

abbrev count : Term → Term
count t = call1 "COUNT" t

abbrev pub number_rows : List Row
number_rows =
    (1, 0, equal_term (call1 "NUMBERP" x_term) true_term ∷ equal_term (call1 "NUMBERP" x_term) false_term ∷ [])
    ∷ (2, 0, call1 "NUMBERP" (call1 "ADD1" x1) ∷ [])
    ∷ (3, 0, call1 "NUMBERP" (call0 "ZERO") ∷ [])
    ∷ (4, 0, not_term (equal_term (call1 "ADD1" x1) (call0 "ZERO")) ∷ [])
    ∷ (5, 0, not_term (call1 "NUMBERP" x_term) ∷ equal_term x_term (call0 "ZERO") ∷ equal_term (call1 "ADD1" (call1 "SUB1" x_term)) x_term ∷ [])
    ∷ (6, 1, not_term (call1 "NUMBERP" x1) ∷ equal_term (call1 "SUB1" (call1 "ADD1" x1)) x1 ∷ [])
    ∷ (7, 1, call1 "NUMBERP" x1 ∷ equal_term (call1 "SUB1" (call1 "ADD1" x1)) (call0 "ZERO") ∷ [])
    ∷ (8, 1, call1 "NUMBERP" x_term ∷ equal_term (call1 "SUB1" x_term) (call0 "ZERO") ∷ [])
    ∷ (9, 1, equal_term (call1 "SUB1" (call0 "ZERO")) (call0 "ZERO") ∷ [])
    ∷ (10, 1, call1 "NUMBERP" x1 ∷ equal_term (call1 "ADD1" x1) (call1 "ADD1" (call0 "ZERO")) ∷ [])
    ∷ (11, 0, not_term (call1 "NUMBERP" true_term) ∷ [])
    ∷ (12, 0, not_term (call1 "NUMBERP" false_term) ∷ [])
    ∷ (14, 0, equal_term (count (call1 "ADD1" x1)) (add1_term (if_term (call1 "NUMBERP" x1) (count x1) zero_term)) ∷ [])
    ∷ (15, 0, equal_term (count (call0 "ZERO")) zero_term ∷ [])
    ∷ []

abbrev pub pair_rows : List Row
pair_rows =
    (1, 0, equal_term (call1 "LISTP" x_term) true_term ∷ equal_term (call1 "LISTP" x_term) false_term ∷ [])
    ∷ (2, 0, call1 "LISTP" (call2 "CONS" x1 x2) ∷ [])
    ∷ (5, 0, not_term (call1 "LISTP" x_term) ∷ equal_term (call2 "CONS" (call1 "CAR" x_term) (call1 "CDR" x_term)) x_term ∷ [])
    ∷ (6, 1, not_term true_term ∷ equal_term (call1 "CAR" (call2 "CONS" x1 x2)) x1 ∷ [])
    ∷ (6, 2, not_term true_term ∷ equal_term (call1 "CDR" (call2 "CONS" x1 x2)) x2 ∷ [])
    ∷ (7, 1, true_term ∷ equal_term (call1 "CAR" (call2 "CONS" x1 x2)) (call0 "ZERO") ∷ [])
    ∷ (7, 2, true_term ∷ equal_term (call1 "CDR" (call2 "CONS" x1 x2)) (call0 "ZERO") ∷ [])
    ∷ (8, 1, call1 "LISTP" x_term ∷ equal_term (call1 "CAR" x_term) (call0 "ZERO") ∷ [])
    ∷ (8, 2, call1 "LISTP" x_term ∷ equal_term (call1 "CDR" x_term) (call0 "ZERO") ∷ [])
    ∷ (10, 1, true_term ∷ equal_term (call2 "CONS" x1 x2) (call2 "CONS" (call0 "ZERO") x2) ∷ [])
    ∷ (10, 2, true_term ∷ equal_term (call2 "CONS" x1 x2) (call2 "CONS" x1 (call0 "ZERO")) ∷ [])
    ∷ (11, 0, not_term (call1 "LISTP" true_term) ∷ [])
    ∷ (12, 0, not_term (call1 "LISTP" false_term) ∷ [])
    ∷ (13, 1, not_term (call1 "LISTP" x_term) ∷ not_term (call1 "NUMBERP" x_term) ∷ [])
    ∷ (14, 0, equal_term (count (call2 "CONS" x1 x2)) (add1_term (call2 "PLUS" (if_term true_term (count x1) zero_term) (if_term true_term (count x2) zero_term))) ∷ [])
    ∷ []

abbrev pub atom_rows : List Row
atom_rows =
    (1, 0, equal_term (call1 "LITATOM" x_term) true_term ∷ equal_term (call1 "LITATOM" x_term) false_term ∷ [])
    ∷ (2, 0, call1 "LITATOM" (call1 "PACK" x1) ∷ [])
    ∷ (5, 0, not_term (call1 "LITATOM" x_term) ∷ equal_term (call1 "PACK" (call1 "UNPACK" x_term)) x_term ∷ [])
    ∷ (6, 1, not_term true_term ∷ equal_term (call1 "UNPACK" (call1 "PACK" x1)) x1 ∷ [])
    ∷ (7, 1, true_term ∷ equal_term (call1 "UNPACK" (call1 "PACK" x1)) (call0 "ZERO") ∷ [])
    ∷ (8, 1, call1 "LITATOM" x_term ∷ equal_term (call1 "UNPACK" x_term) (call0 "ZERO") ∷ [])
    ∷ (10, 1, true_term ∷ equal_term (call1 "PACK" x1) (call1 "PACK" (call0 "ZERO")) ∷ [])
    ∷ (11, 0, not_term (call1 "LITATOM" true_term) ∷ [])
    ∷ (12, 0, not_term (call1 "LITATOM" false_term) ∷ [])
    ∷ (13, 1, not_term (call1 "LITATOM" x_term) ∷ not_term (call1 "NUMBERP" x_term) ∷ [])
    ∷ (13, 2, not_term (call1 "LITATOM" x_term) ∷ not_term (call1 "LISTP" x_term) ∷ [])
    ∷ (14, 0, equal_term (count (call1 "PACK" x1)) (add1_term (if_term true_term (count x1) zero_term)) ∷ [])
    ∷ []

abbrev pub negative_rows : List Row
negative_rows =
    (1, 0, equal_term (call1 "NEGATIVEP" x_term) true_term ∷ equal_term (call1 "NEGATIVEP" x_term) false_term ∷ [])
    ∷ (2, 0, call1 "NEGATIVEP" (call1 "MINUS" x1) ∷ [])
    ∷ (5, 0, not_term (call1 "NEGATIVEP" x_term) ∷ equal_term (call1 "MINUS" (call1 "NEGATIVE-GUTS" x_term)) x_term ∷ [])
    ∷ (6, 1, not_term (call1 "NUMBERP" x1) ∷ equal_term (call1 "NEGATIVE-GUTS" (call1 "MINUS" x1)) x1 ∷ [])
    ∷ (7, 1, call1 "NUMBERP" x1 ∷ equal_term (call1 "NEGATIVE-GUTS" (call1 "MINUS" x1)) (call0 "ZERO") ∷ [])
    ∷ (8, 1, call1 "NEGATIVEP" x_term ∷ equal_term (call1 "NEGATIVE-GUTS" x_term) (call0 "ZERO") ∷ [])
    ∷ (10, 1, call1 "NUMBERP" x1 ∷ equal_term (call1 "MINUS" x1) (call1 "MINUS" (call0 "ZERO")) ∷ [])
    ∷ (11, 0, not_term (call1 "NEGATIVEP" true_term) ∷ [])
    ∷ (12, 0, not_term (call1 "NEGATIVEP" false_term) ∷ [])
    ∷ (13, 1, not_term (call1 "NEGATIVEP" x_term) ∷ not_term (call1 "NUMBERP" x_term) ∷ [])
    ∷ (13, 2, not_term (call1 "NEGATIVEP" x_term) ∷ not_term (call1 "LISTP" x_term) ∷ [])
    ∷ (13, 3, not_term (call1 "NEGATIVEP" x_term) ∷ not_term (call1 "LITATOM" x_term) ∷ [])
    ∷ (14, 0, equal_term (count (call1 "MINUS" x1)) (add1_term (if_term (call1 "NUMBERP" x1) (count x1) zero_term)) ∷ [])
    ∷ []

-- stacks: the top is a number or a literal atom, and what lies below it is no pair
abbrev pub stacks : Shell
stacks = record {
  constructor = codes "PUSH";
  base = Some (codes "EMPTY");
  recognizer = codes "STACKP";
  parts =
      record { accessor = codes "TOP"; restriction = OneOf (codes "NUMBERP" ∷ codes "LITATOM" ∷ []); default = codes "ZERO" }
      ∷ record { accessor = codes "POP"; restriction = NoneOf (codes "LISTP" ∷ []); default = codes "TRUE" } ∷ [];
}

abbrev is_top : Term → Term
is_top t = or_term (call1 "NUMBERP" t) (call1 "LITATOM" t)

abbrev is_rest : Term → Term
is_rest t = not_term (call1 "LISTP" t)

abbrev pub stack_rows : List Row
stack_rows =
    (1, 0, equal_term (call1 "STACKP" x_term) true_term ∷ equal_term (call1 "STACKP" x_term) false_term ∷ [])
    ∷ (2, 0, call1 "STACKP" (call2 "PUSH" x1 x2) ∷ [])
    ∷ (3, 0, call1 "STACKP" (call0 "EMPTY") ∷ [])
    ∷ (4, 0, not_term (equal_term (call2 "PUSH" x1 x2) (call0 "EMPTY")) ∷ [])
    ∷ (5, 0, not_term (call1 "STACKP" x_term) ∷ equal_term x_term (call0 "EMPTY") ∷ equal_term (call2 "PUSH" (call1 "TOP" x_term) (call1 "POP" x_term)) x_term ∷ [])
    ∷ (6, 1, not_term (is_top x1) ∷ equal_term (call1 "TOP" (call2 "PUSH" x1 x2)) x1 ∷ [])
    ∷ (6, 2, not_term (is_rest x2) ∷ equal_term (call1 "POP" (call2 "PUSH" x1 x2)) x2 ∷ [])
    ∷ (7, 1, is_top x1 ∷ equal_term (call1 "TOP" (call2 "PUSH" x1 x2)) (call0 "ZERO") ∷ [])
    ∷ (7, 2, is_rest x2 ∷ equal_term (call1 "POP" (call2 "PUSH" x1 x2)) true_term ∷ [])
    ∷ (8, 1, call1 "STACKP" x_term ∷ equal_term (call1 "TOP" x_term) (call0 "ZERO") ∷ [])
    ∷ (8, 2, call1 "STACKP" x_term ∷ equal_term (call1 "POP" x_term) true_term ∷ [])
    ∷ (9, 1, equal_term (call1 "TOP" (call0 "EMPTY")) (call0 "ZERO") ∷ [])
    ∷ (9, 2, equal_term (call1 "POP" (call0 "EMPTY")) true_term ∷ [])
    ∷ (10, 1, is_top x1 ∷ equal_term (call2 "PUSH" x1 x2) (call2 "PUSH" (call0 "ZERO") x2) ∷ [])
    ∷ (10, 2, is_rest x2 ∷ equal_term (call2 "PUSH" x1 x2) (call2 "PUSH" x1 true_term) ∷ [])
    ∷ (11, 0, not_term (call1 "STACKP" true_term) ∷ [])
    ∷ (12, 0, not_term (call1 "STACKP" false_term) ∷ [])
    ∷ (13, 1, not_term (call1 "STACKP" x_term) ∷ not_term (call1 "NUMBERP" x_term) ∷ [])
    ∷ (13, 2, not_term (call1 "STACKP" x_term) ∷ not_term (call1 "LISTP" x_term) ∷ [])
    ∷ (13, 3, not_term (call1 "STACKP" x_term) ∷ not_term (call1 "LITATOM" x_term) ∷ [])
    ∷ (13, 4, not_term (call1 "STACKP" x_term) ∷ not_term (call1 "NEGATIVEP" x_term) ∷ [])
    ∷ (14, 0, equal_term (count (call2 "PUSH" x1 x2)) (add1_term (call2 "PLUS" (if_term (is_top x1) (count x1) zero_term) (if_term (is_rest x2) (count x2) zero_term))) ∷ [])
    ∷ (15, 0, equal_term (count (call0 "EMPTY")) zero_term ∷ [])
    ∷ []

-- a shell without parts, and one with a restriction that nothing meets
abbrev pub marks : Shell
marks = record { constructor = codes "MARK"; base = None; recognizer = codes "MARKP"; parts = [] }

abbrev pub nothings : Shell
nothings = record {
  constructor = codes "WRAP";
  base = None;
  recognizer = codes "WRAPP";
  parts = record { accessor = codes "INSIDE"; restriction = OneOf []; default = codes "FALSE" } ∷ [];
}

-- The rows of the table, as they are written out here, are clauses of the shells.
pub record ShellRows : Type 0 where
  pub of_numbers : AreRows [] numbers number_rows
  pub of_pairs : AreRows (numbers ∷ []) pairs pair_rows
  pub of_atoms : AreRows (numbers ∷ pairs ∷ []) atoms atom_rows
  pub of_negatives : AreRows (numbers ∷ pairs ∷ atoms ∷ []) negatives negative_rows
  pub of_stacks : AreRows ground_shells stacks stack_rows
  pub of_marks : AreRows [] marks ((2, 0, call1 "MARKP" (call0 "MARK") ∷ []) ∷ (5, 0, not_term (call1 "MARKP" x_term) ∷ equal_term (call0 "MARK") x_term ∷ []) ∷ (14, 0, equal_term (count (call0 "MARK")) (add1_term zero_term) ∷ []) ∷ [])
  pub of_nothings : AreRows [] nothings ((6, 1, not_term false_term ∷ equal_term (call1 "INSIDE" (call1 "WRAP" x1)) x1 ∷ []) ∷ (10, 1, false_term ∷ equal_term (call1 "WRAP" x1) (call1 "WRAP" false_term) ∷ []) ∷ [])

-- the rows that speak of the base
abbrev pub is_base_row : ℕ → Bool
is_base_row row = row == 3 || row == 4 || row == 9 || row == 15

-- a row has one clause for each part and each earlier shell
abbrev pub OneClauseForRow : Type 0
OneClauseForRow =
    (earlier : List Shell) (s : Shell) (row i : ℕ) (c d : List Term) → IsShellClause earlier s row i c → IsShellClause earlier s row i d → c ≡ d

-- a shell without a base has no rows that speak of it
abbrev pub BaseRowsNeedBase : Type 0
BaseRowsNeedBase =
    (earlier : List Shell) (s : Shell) (row i : ℕ) (c : List Term) → s.base ≡ None → IsShellClause earlier s row i c → is_base_row row ≡ false
