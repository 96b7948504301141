-- What the ground definitions compute: each side of each body at least once, where a plausible other body would differ.
use Rattle.std.specs.Prelude.{◌≡◌, true, List, [], ◌∷◌}
use Rattle.nq_logic.specs.Terms.{Term}
use Rattle.nq_logic.specs.Words.{call1, call2, true_term, false_term, numeral, literal_atom}
use Rattle.nq_logic.specs.Evaluation.{have_values}

abbrev t : Term
t = true_term

abbrev f : Term
f = false_term

abbrev nil : Term
nil = literal_atom "NIL"

abbrev pair : Term → Term → Term
pair a b = call2 "CONS" a b

-- the list of these, ended by NIL
abbrev list : List Term → Term
list [] = nil
list (a ∷ rest) = pair a (list rest)

-- Only F is false, and each function gives T or F.
pub record TruthFunctionsCompute : Type 0 where
  pub truep : have_values ((call1 "TRUEP" t, t) ∷ (call1 "TRUEP" (numeral 1), f) ∷ []) ≡ true
  pub falsep : have_values ((call1 "FALSEP" f, t) ∷ (call1 "FALSEP" t, f) ∷ (call1 "FALSEP" (numeral 0), f) ∷ []) ≡ true
  pub not : have_values ((call1 "NOT" f, t) ∷ (call1 "NOT" t, f) ∷ (call1 "NOT" (numeral 0), f) ∷ []) ≡ true
  pub and : have_values ((call2 "AND" (numeral 0) (numeral 1), t) ∷ (call2 "AND" f t, f) ∷ (call2 "AND" t f, f) ∷ []) ≡ true
  pub or : have_values ((call2 "OR" (numeral 0) f, t) ∷ (call2 "OR" f (numeral 0), t) ∷ (call2 "OR" f f, f) ∷ []) ≡ true
  pub implies : have_values ((call2 "IMPLIES" (numeral 0) (numeral 1), t) ∷ (call2 "IMPLIES" t f, f) ∷ (call2 "IMPLIES" f f, t) ∷ (call2 "IMPLIES" f t, t) ∷ []) ≡ true
  pub iff : have_values ((call2 "IFF" (numeral 0) (numeral 1), t) ∷ (call2 "IFF" t f, f) ∷ (call2 "IFF" f t, f) ∷ (call2 "IFF" f f, t) ∷ []) ≡ true
  pub identity : have_values ((call1 "IDENTITY" nil, nil) ∷ (call1 "IDENTITY" f, f) ∷ []) ≡ true

-- What is no number counts as 0.
pub record NumberFunctionsCompute : Type 0 where
  pub zerop : have_values ((call1 "ZEROP" (numeral 0), t) ∷ (call1 "ZEROP" (numeral 2), f) ∷ (call1 "ZEROP" t, t) ∷ []) ≡ true
  pub fix : have_values ((call1 "FIX" (numeral 3), numeral 3) ∷ (call1 "FIX" t, numeral 0) ∷ []) ≡ true
  pub plus :
      have_values (
      (call2 "PLUS" (numeral 2) (numeral 3), numeral 5) ∷ (call2 "PLUS" (numeral 0) t, numeral 0) ∷ (call2 "PLUS" t (numeral 4), numeral 4)
      ∷ (call2 "PLUS" (numeral 3) f, numeral 3) ∷ []
      ) ≡ true
  pub lessp :
      have_values (
      (call2 "LESSP" (numeral 2) (numeral 3), t) ∷ (call2 "LESSP" (numeral 3) (numeral 2), f) ∷ (call2 "LESSP" (numeral 2) (numeral 2), f)
      ∷ (call2 "LESSP" (numeral 0) (numeral 0), f) ∷ (call2 "LESSP" t (numeral 1), t) ∷ (call2 "LESSP" (numeral 1) t, f) ∷ []
      ) ≡ true
  pub difference :
      have_values (
      (call2 "DIFFERENCE" (numeral 5) (numeral 2), numeral 3) ∷ (call2 "DIFFERENCE" (numeral 2) (numeral 5), numeral 0)
      ∷ (call2 "DIFFERENCE" (numeral 4) t, numeral 4) ∷ (call2 "DIFFERENCE" t t, numeral 0) ∷ []
      ) ≡ true
  pub times :
      have_values (
      (call2 "TIMES" (numeral 3) (numeral 4), numeral 12) ∷ (call2 "TIMES" t (numeral 4), numeral 0) ∷ (call2 "TIMES" (numeral 2) t, numeral 0) ∷ []
      ) ≡ true
  pub quotient :
      have_values (
      (call2 "QUOTIENT" (numeral 7) (numeral 2), numeral 3) ∷ (call2 "QUOTIENT" (numeral 6) (numeral 2), numeral 3)
      ∷ (call2 "QUOTIENT" (numeral 1) (numeral 2), numeral 0) ∷ (call2 "QUOTIENT" (numeral 7) (numeral 0), numeral 0) ∷ (call2 "QUOTIENT" t (numeral 3), numeral 0) ∷ []
      ) ≡ true
  pub remainder :
      have_values (
      (call2 "REMAINDER" (numeral 7) (numeral 2), numeral 1) ∷ (call2 "REMAINDER" (numeral 6) (numeral 2), numeral 0)
      ∷ (call2 "REMAINDER" (numeral 1) (numeral 2), numeral 1) ∷ (call2 "REMAINDER" (numeral 7) (numeral 0), numeral 7)
      ∷ (call2 "REMAINDER" t (numeral 0), numeral 0) ∷ (call2 "REMAINDER" t (numeral 3), numeral 0) ∷ []
      ) ≡ true
  pub greaterp :
      have_values (
      (call2 "GREATERP" (numeral 3) (numeral 2), t) ∷ (call2 "GREATERP" (numeral 2) (numeral 3), f) ∷ (call2 "GREATERP" (numeral 2) (numeral 2), f) ∷ []
      ) ≡ true
  pub leq : have_values ((call2 "LEQ" (numeral 2) (numeral 3), t) ∷ (call2 "LEQ" (numeral 2) (numeral 2), t) ∷ (call2 "LEQ" (numeral 3) (numeral 2), f) ∷ []) ≡ true
  pub geq : have_values ((call2 "GEQ" (numeral 3) (numeral 2), t) ∷ (call2 "GEQ" (numeral 2) (numeral 2), t) ∷ (call2 "GEQ" (numeral 2) (numeral 3), f) ∷ []) ≡ true
  pub max :
      have_values (
      (call2 "MAX" (numeral 2) (numeral 3), numeral 3) ∷ (call2 "MAX" (numeral 3) (numeral 2), numeral 3) ∷ (call2 "MAX" t (numeral 0), numeral 0) ∷ []
      ) ≡ true

-- A list may end in anything that is no pair.
pub record ListFunctionsCompute : Type 0 where
  pub nlistp : have_values ((call1 "NLISTP" (pair t f), f) ∷ (call1 "NLISTP" nil, t) ∷ []) ≡ true
  pub append :
      have_values (
      (call2 "APPEND" (list (numeral 1 ∷ numeral 2 ∷ [])) (list (numeral 3 ∷ [])), list (numeral 1 ∷ numeral 2 ∷ numeral 3 ∷ []))
      ∷ (call2 "APPEND" (pair (numeral 1) (numeral 2)) (numeral 3), pair (numeral 1) (numeral 3)) ∷ (call2 "APPEND" (numeral 5) t, t) ∷ []
      ) ≡ true
  pub member :
      have_values (
      (call2 "MEMBER" (numeral 2) (list (numeral 1 ∷ numeral 2 ∷ [])), t) ∷ (call2 "MEMBER" (numeral 3) (list (numeral 1 ∷ numeral 2 ∷ [])), f)
      ∷ (call2 "MEMBER" (numeral 1) (numeral 1), f) ∷ []
      ) ≡ true
  pub union :
      have_values (
      (call2 "UNION" (list (numeral 1 ∷ numeral 2 ∷ [])) (list (numeral 2 ∷ numeral 3 ∷ [])), list (numeral 1 ∷ numeral 2 ∷ numeral 3 ∷ []))
      ∷ (call2 "UNION" (numeral 0) (numeral 1), numeral 1) ∷ []
      ) ≡ true
  pub add_to_set :
      have_values (
      (call2 "ADD-TO-SET" (numeral 1) (list (numeral 1 ∷ [])), list (numeral 1 ∷ [])) ∷ (call2 "ADD-TO-SET" (numeral 3) (list (numeral 1 ∷ [])), list (numeral 3 ∷ numeral 1 ∷ [])) ∷ []
      ) ≡ true
  pub assoc :
      have_values (
      (call2 "ASSOC" (numeral 2) (list (pair (numeral 1) (numeral 5) ∷ pair (numeral 2) (numeral 6) ∷ [])), pair (numeral 2) (numeral 6))
      ∷ (call2 "ASSOC" (numeral 3) (list (pair (numeral 1) (numeral 5) ∷ [])), f) ∷ (call2 "ASSOC" (numeral 0) (numeral 0), f) ∷ []
      ) ≡ true
  pub pairlist :
      have_values (
      (call2 "PAIRLIST" (list (numeral 1 ∷ numeral 2 ∷ [])) (list (numeral 3 ∷ [])), list (pair (numeral 1) (numeral 3) ∷ pair (numeral 2) (numeral 0) ∷ []))
      ∷ (call2 "PAIRLIST" (numeral 0) (list (numeral 3 ∷ [])), nil) ∷ []
      ) ≡ true

-- A pair is an ordinal above all numbers, its first part the greatest power in it; the powers never rise.
pub record OrdinalFunctionsCompute : Type 0 where
  pub numbers : have_values ((call2 "ORD-LESSP" (numeral 1) (numeral 2), t) ∷ (call2 "ORD-LESSP" (numeral 2) (numeral 1), f) ∷ []) ≡ true
  pub number_and_pair :
      have_values ((call2 "ORD-LESSP" (numeral 5) (pair (numeral 1) (numeral 0)), t) ∷ (call2 "ORD-LESSP" (pair (numeral 1) (numeral 0)) (numeral 5), f) ∷ []) ≡ true
  pub first_parts :
      have_values (
      (call2 "ORD-LESSP" (pair (numeral 1) (numeral 4)) (pair (numeral 2) (numeral 3)), t) ∷ (call2 "ORD-LESSP" (pair (numeral 2) (numeral 3)) (pair (numeral 1) (numeral 4)), f) ∷ []
      ) ≡ true
  pub second_parts :
      have_values (
      (call2 "ORD-LESSP" (pair (numeral 1) (numeral 3)) (pair (numeral 1) (numeral 4)), t) ∷ (call2 "ORD-LESSP" (pair (numeral 1) (numeral 4)) (pair (numeral 1) (numeral 3)), f)
      ∷ (call2 "ORD-LESSP" (pair (numeral 1) (numeral 3)) (pair (numeral 1) (numeral 3)), f) ∷ []
      ) ≡ true
  pub ordinals :
      have_values (
      (call1 "ORDINALP" (numeral 3), t) ∷ (call1 "ORDINALP" (pair (numeral 1) (numeral 0)), t) ∷ (call1 "ORDINALP" (pair (numeral 2) (pair (numeral 1) (numeral 7))), t)
      ∷ (call1 "ORDINALP" (pair (numeral 1) (pair (numeral 1) (numeral 0))), t) ∷ (call1 "ORDINALP" (pair (pair (numeral 1) (numeral 0)) (numeral 0)), t) ∷ []
      ) ≡ true
  pub others :
      have_values (
      (call1 "ORDINALP" t, f) ∷ (call1 "ORDINALP" (pair (numeral 0) (numeral 5)), f) ∷ (call1 "ORDINALP" (pair (numeral 1) (pair (numeral 2) (numeral 0))), f)
      ∷ (call1 "ORDINALP" (pair t (numeral 0)), f) ∷ (call1 "ORDINALP" (pair (numeral 1) t), f) ∷ []
      ) ≡ true
