-- Terms at work: substitution, numerals, values, depth and size.
use Rattle.std.specs.Prelude.{◌≡◌, ℕ, ◌-◌, ◌^◌, Bool, true, false, List, [], ◌∷◌, map, Some, None, codes}
use Rattle.nq_logic.specs.Terms.{Term, Applied, substituted}
use Rattle.nq_logic.specs.Words.{variable, call0, call1, call2, call3, true_term, false_term, numeral, literal_atom, add1_term, not_term}
use Rattle.nq_logic.specs.Tests.{is_term}
use Rattle.nq_logic.specs.Numerals.{number_of, next_number}
use Rattle.nq_logic.specs.Values.{is_value}
use Rattle.nq_logic.specs.Sizes.{depth_of, size_of}
use Rattle.nq_logic.specs.Formulas.{Equation, Not, Or, clause, conjunction, implied, holds}

abbrev x : Term
x = variable "X"

abbrev y : Term
y = variable "Y"

-- each function has as many arguments as it should
pub record TermsAreTold : Type 0 where
  pub right : map (is_term ((codes "F", 2) ∷ (codes "G", 0) ∷ [])) (x ∷ call0 "G" ∷ call2 "F" x (call2 "F" (call0 "G") y) ∷ []) ≡ (true ∷ true ∷ true ∷ [])
  pub wrong :
      map (is_term ((codes "F", 2) ∷ (codes "G", 0) ∷ [])) (call0 "F" ∷ call1 "F" x ∷ call3 "F" x x x ∷ call1 "G" x ∷ call0 "H" ∷ call2 "F" x (call1 "F" x) ∷ Applied x y ∷ [])
      ≡ (false ∷ false ∷ false ∷ false ∷ false ∷ false ∷ false ∷ [])

-- the terms that literals stand for
pub record LiteralsAreTerms : Type 0 where
  pub number : numeral 2 ≡ call1 "ADD1" (call1 "ADD1" (call0 "ZERO"))
  pub nothing : numeral 0 ≡ call0 "ZERO"
  pub atom : literal_atom "NIL" ≡ call1 "PACK" (call2 "CONS" (numeral 78) (call2 "CONS" (numeral 73) (call2 "CONS" (numeral 76) (call0 "ZERO"))))
  pub truth : true_term ≡ call0 "TRUE"
  pub falsity : false_term ≡ call0 "FALSE"

-- all variables are replaced at once, and what is put in stays
pub record SubstitutionsCompute : Type 0 where
  pub exchanged : substituted ((codes "X", y) ∷ (codes "Y", x) ∷ []) (call2 "PLUS" x y) ≡ call2 "PLUS" y x
  pub others : substituted ((codes "X", call1 "SUB1" x) ∷ []) (call2 "PLUS" x y) ≡ call2 "PLUS" (call1 "SUB1" x) y

-- two literals, none, and a conjunction, read as formulas
pub record FormulasAreRead : Type 0 where
  pub literal : clause (x ∷ []) ≡ Not (Equation x false_term)
  pub literals : clause (x ∷ y ∷ x ∷ []) ≡ Or (Not (Equation x false_term)) (Or (Not (Equation y false_term)) (Not (Equation x false_term)))
  pub empty : clause [] ≡ Not (Equation false_term false_term)
  pub both : conjunction (holds x ∷ holds y ∷ []) ≡ Not (Or (Not (holds x)) (Not (holds y)))
  pub all : conjunction [] ≡ Equation true_term true_term
  pub chain : implied (holds x ∷ holds y ∷ []) (holds x) ≡ Or (Not (holds x)) (Or (Not (holds y)) (holds x))

-- the numerals go to 2^128 - 1; ADD1 of that is a call, and no value
pub record NumeralsEnd : Type 0 where
  pub three : number_of (add1_term (add1_term (add1_term (call0 "ZERO")))) ≡ Some 3
  pub other : number_of (add1_term true_term) ≡ None
  pub last : next_number (Some (2 ^ 128 - 2)) ≡ Some (2 ^ 128 - 1)
  pub past : next_number (Some (2 ^ 128 - 1)) ≡ None
  pub call : (t : Term) → number_of t ≡ Some (2 ^ 128 - 1) → is_value (add1_term t) ≡ false

abbrev are_values : List Term → List Bool
are_values ts = map is_value ts

-- which terms are values
pub record ValuesAreTold : Type 0 where
  pub values :
      are_values (true_term ∷ false_term ∷ numeral 0 ∷ numeral 3 ∷ literal_atom "NIL" ∷ call2 "CONS" (numeral 1) true_term ∷ call1 "PACK" false_term ∷ call1 "MINUS" (numeral 2) ∷ call1 "MINUS" (numeral 0) ∷ [])
      ≡ (true ∷ true ∷ true ∷ true ∷ true ∷ true ∷ true ∷ true ∷ true ∷ [])
  pub others :
      are_values (x ∷ call0 "EMPTY" ∷ add1_term true_term ∷ add1_term x ∷ call1 "MINUS" true_term ∷ call1 "MINUS" (call1 "MINUS" (numeral 1)) ∷ call2 "CONS" x (numeral 1) ∷ call2 "CONS" (numeral 1) x ∷ call1 "PACK" x ∷ call1 "CAR" (numeral 1) ∷ call2 "PLUS" (numeral 1) (numeral 1) ∷ [])
      ≡ (false ∷ false ∷ false ∷ false ∷ false ∷ false ∷ false ∷ false ∷ false ∷ false ∷ false ∷ [])

abbrev depth_and_size : Term → ℕ × ℕ
depth_and_size t = (depth_of t, size_of t)

-- a variable, a numeral and a constant are one deep and one node
pub record SizesAreTold : Type 0 where
  pub sizes :
      map depth_and_size (x ∷ true_term ∷ numeral 0 ∷ numeral 3 ∷ add1_term x ∷ call2 "PLUS" (numeral 3) x ∷ call2 "CONS" (call1 "CAR" x) (numeral 2) ∷ call3 "IF" x (not_term (not_term x)) y ∷ literal_atom "NIL" ∷ [])
      ≡ ((1, 1) ∷ (1, 1) ∷ (1, 1) ∷ (1, 1) ∷ (2, 2) ∷ (2, 3) ∷ (3, 4) ∷ (4, 6) ∷ (5, 8) ∷ [])
