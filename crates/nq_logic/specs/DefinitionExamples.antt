-- The calls of a function in a body, what is to be shown of each, and definitions that are admissible or not.
use Prim.Native.String.{String as Text}
use Rattle.std.specs.Prelude.{◌≡◌, ◌↔◌, ℕ, false, List, [], ◌∷◌, map, codes, Some}
use Rattle.nq_logic.specs.Terms.{Term}
use Rattle.nq_logic.specs.Words.{variable, call1, call2, if_term, not_term, add1_term, zero_term}
use Rattle.nq_logic.specs.Histories.{History, Definition}
use Rattle.nq_logic.specs.Ground.{defines1, by_size_of}
use Rattle.nq_logic.specs.Names.{is_in_use}
use Rattle.nq_logic.specs.Formulas.{clause}
use Rattle.nq_logic.specs.Derivations.{Derivable}
use Rattle.nq_logic.specs.Admissible.{calls_of, obligation, IsAdmissible}
use Rattle.nq_logic.specs.GroundTable.{written}

abbrev x : Term
x = variable "X"

abbrev y : Term
y = variable "Y"

-- the arguments of each call of f, and what is to be shown of it, as they are written
abbrev arguments_in : Text → Term → List (List (List ℕ))
arguments_in f body = map (λ c. map written c.arguments) (calls_of (codes f) body)

abbrev obligations_in : Text → List Text → Term → Term → List (List (List ℕ))
obligations_in f xs m body = map (λ c. map written (obligation (codes f) (map codes xs) m c.tests c.arguments)) (calls_of (codes f) body)

abbrev texts : List (List Text) → List (List (List ℕ))
texts rows = map (λ row. map codes row) rows

-- (MC-FLATTEN X Y): a call within a call
abbrev flattened : Term
flattened = if_term (call1 "LISTP" x) (call2 "MC-FLATTEN" (call1 "CAR" x) (call2 "MC-FLATTEN" (call1 "CDR" x) y)) (call2 "CONS" x y)

-- (G X): calls in a test, in both sides of two IFs, and within another function
abbrev tangled : Term
tangled =
    if_term (call1 "G" (call1 "CAR" x))
    (call1 "G" (call1 "CDR" x))
    (if_term (call1 "LISTP" x) (call2 "PLUS" (call1 "G" (call1 "SUB1" x)) (if_term (call1 "ZEROP" x) x (call1 "G" zero_term))) (call1 "G" x))

-- Calls come in the order of their opening parentheses. The tests come outermost first, and one that mentions the function
-- is left out.
pub record ObligationsCompute : Type 0 where
  pub inner_call : arguments_in "MC-FLATTEN" flattened ≡ texts (("(CAR X)" ∷ "(MC-FLATTEN (CDR X) Y)" ∷ []) ∷ ("(CDR X)" ∷ "Y" ∷ []) ∷ [])
  pub of_inner_call :
      obligations_in "MC-FLATTEN" ("X" ∷ "Y" ∷ []) (call1 "COUNT" x) flattened
      ≡ texts (("(NOT (LISTP X))" ∷ "(ORD-LESSP (COUNT (CAR X)) (COUNT X))" ∷ []) ∷ ("(NOT (LISTP X))" ∷ "(ORD-LESSP (COUNT (CDR X)) (COUNT X))" ∷ []) ∷ [])
  pub tests :
      obligations_in "G" ("X" ∷ []) (call1 "COUNT" x) tangled
      ≡ texts (
      ("(ORD-LESSP (COUNT (CAR X)) (COUNT X))" ∷ []) ∷ ("(ORD-LESSP (COUNT (CDR X)) (COUNT X))" ∷ [])
      ∷ ("(NOT (LISTP X))" ∷ "(ORD-LESSP (COUNT (SUB1 X)) (COUNT X))" ∷ []) ∷ ("(NOT (LISTP X))" ∷ "(NOT (NOT (ZEROP X)))" ∷ "(ORD-LESSP (COUNT 0) (COUNT X))" ∷ [])
      ∷ ("(NOT (NOT (LISTP X)))" ∷ "(ORD-LESSP (COUNT X) (COUNT X))" ∷ []) ∷ []
      )
  pub second_formal :
      obligations_in "H" ("Y" ∷ "X" ∷ []) (call1 "COUNT" x) (call2 "H" x (call1 "CDR" y)) ≡ texts (("(ORD-LESSP (COUNT (CDR Y)) (COUNT X))" ∷ []) ∷ [])

-- (DOUBLE X) is (PLUS X X)
abbrev double : Definition
double = defines1 "DOUBLE" "X" (call2 "PLUS" x x)

pub record AdmissibleDefinitions : Type 0 where
  pub plain : IsAdmissible [] double
  pub in_use : IsAdmissible [] (record double { function = codes "PLUS" }) → ⊥
  pub repeated_formal : IsAdmissible [] (record double { formals = codes "X" ∷ codes "X" ∷ [] }) → ⊥
  pub free_variable : IsAdmissible [] (defines1 "DOUBLE" "X" (call2 "PLUS" x y)) → ⊥
  pub wrong_arity : IsAdmissible [] (defines1 "DOUBLE" "X" (call1 "PLUS" x)) → ⊥
  pub unknown_function : IsAdmissible [] (defines1 "DOUBLE" "X" (call1 "TWICE" x)) → ⊥
  pub needless_measure : IsAdmissible [] (record double { measure = Some (call1 "COUNT" x) }) → ⊥
  pub missing_measure : IsAdmissible [] (defines1 "G" "X" (add1_term (call1 "G" x))) → ⊥

-- (LAST X), which calls itself on what is behind the first
abbrev last : Definition
last = by_size_of "X" (defines1 "LAST" "X" (if_term (call1 "LISTP" x) (call1 "LAST" (call1 "CDR" x)) x))

-- a recursive definition is admissible exactly where its measure is an ordinal and falls
abbrev pub RecursionFalls : Type 0
RecursionFalls =
    (h : History) → is_in_use (codes "LAST") h ≡ false →
    IsAdmissible h last
    ↔ Derivable h (clause (call1 "ORDINALP" (call1 "COUNT" x) ∷ []))
    × Derivable h (clause (not_term (call1 "LISTP" x) ∷ call2 "ORD-LESSP" (call1 "COUNT" (call1 "CDR" x)) (call1 "COUNT" x) ∷ []))

-- a measure whose value at a call mentions the function is none
abbrev pub NoMeasureByItself : Type 0
NoMeasureByItself =
    (h : History) → IsAdmissible h (by_size_of "X" (defines1 "G" "X" (if_term (call1 "LISTP" x) (call1 "G" (call1 "G" (call1 "CDR" x))) x))) → ⊥
