-- The value of a call has no other variables than the call.
use Prim.Native.String.{String as Text}
use Rattle.std.proofs.Common.{◌≡◌, Bool, true, false, ℕ, zero, suc, ◌+◌, ◌-◌, ◌*◌, ◌/◌, ◌%◌, ◌==◌, nat_lt, List, [], ◌∷◌, ◌⊎◌, ◌&&◌, ◌||◌, not, if◌then◌else◌, inl, inr, refl, subst}
use Rattle.std.specs.Prelude.{Option, Some, None, codes}
use Rattle.nq_logic.specs.Terms.{Name, Term, Variable, Function, Applied, Each}
use Rattle.nq_logic.specs.Words.{true_term, false_term, zero_term, numeral, numerals, literal_atom, call1}
use Rattle.nq_proof.specs.Clauses.{same_term}
use Rattle.nq_logic.specs.Numerals.{numeral_limit, is_numeral}
use Rattle.nq_logic.specs.Values.{is_value}
use Rattle.nq_proof.specs.Paths.{is_function}
use Rattle.nq_proof.specs.Values.{part_of, first_of_pair, rest_of_pair, is_pair, is_call_of, number_or_zero, truth, is_true, narrow, only_if, rows_of_one, rows_of_two, rows_of_three, row_named, value_of}
use Rattle.nq_kernel.specs.Over.{VariablesAre}
use Rattle.nq_proof.proofs.Tests.{chosen_some, none_is_not_some, some_same}

module _ (P : Name → Type 0) where
  abbrev Right : Term → Type 0
  Right = VariablesAre P

  -- what is found has only variables of this kind
  abbrev Over : Option Term → Type 0
  Over o = (v : Term) → o ≡ Some v → Right v

  given_over : (t : Term) → Right t → Over (Some t)
  given_over t o v e = subst (Right) (some_same t v e) o

  nothing_over : Over None
  nothing_over v e = absurd (none_is_not_some v e)

  truth_over : (b : Bool) → Over (Some (truth b))
  truth_over true = given_over true_term tt
  truth_over false = given_over false_term tt

  numeral_over : (n : ℕ) → Right (numeral n)
  unfolding numeral
  numeral_over zero = tt
  numeral_over (suc n) = (tt, numeral_over n)

  numerals_over : (ns : List ℕ) → Right (numerals ns)
  numerals_over [] = tt
  numerals_over (n ∷ ns) = ((tt, numeral_over n), numerals_over ns)

  literal_atom_over : (x : Text) → Right (literal_atom x)
  literal_atom_over x = (tt, numerals_over (codes x))

  number_over : (n : ℕ) → Over (Some (numeral n))
  number_over n = given_over (numeral n) (numeral_over n)

  narrow_over : (n : ℕ) → Over (narrow n)
  narrow_over n = by_test (nat_lt n numeral_limit)
    where
      by_test : (b : Bool) → Over (elim b as (λ b. Option Term) [ true ↦ Some (numeral n) | false ↦ None ])
      by_test true = number_over n
      by_test false = nothing_over

  only_over : (b : Bool) (t : Term) → Right t → Over (only_if b t)
  only_over true t o = given_over t o
  only_over false t o = nothing_over

  chosen_over : (b : Bool) (t u : Term) → Right t → Right u → Right (if b then t else u)
  chosen_over true t u ot ou = ot
  chosen_over false t u ot ou = ou

  part_over : (f : Text) (t : Term) → Right t → Right (part_of f t)
  part_over f (Variable x) o = tt
  part_over f (Function g) o = tt
  part_over f (Applied g u) o = chosen_over (is_function f g) u zero_term o.1 tt

  first_over : (t : Term) → Right t → Right (first_of_pair t)
  first_over (Variable x) o = tt
  first_over (Function g) o = tt
  first_over (Applied (Variable x) u) o = tt
  first_over (Applied (Function f) u) o = tt
  first_over (Applied (Applied f t) u) o = chosen_over (is_function "CONS" f) t zero_term o.0.1 tt

  rest_over : (t : Term) → Right t → Right (rest_of_pair t)
  rest_over (Variable x) o = tt
  rest_over (Function g) o = tt
  rest_over (Applied (Variable x) u) o = tt
  rest_over (Applied (Function f) u) o = tt
  rest_over (Applied (Applied f t) u) o = chosen_over (is_function "CONS" f) u zero_term o.1 tt

  abbrev One : (Term → Option Term) → Type 0
  One row = (a : Term) → Right a → Over (row a)

  abbrev Two : (Term → Term → Option Term) → Type 0
  Two row = (a b : Term) → Right a → Right b → Over (row a b)

  abbrev Three : (Term → Term → Term → Option Term) → Type 0
  Three row = (a b c : Term) → Right a → Right b → Right c → Over (row a b c)

  rows_of_one_over : Each (λ r. One r.1) rows_of_one
  rows_of_one_over =
      (λ a o. truth_over (same_term a true_term), (λ a o. truth_over (same_term a false_term), (λ a o. truth_over (is_numeral a), (λ a o. truth_over (is_pair a), (λ a o. truth_over (is_call_of "PACK" a), (λ a o. truth_over (is_call_of "MINUS" a), (λ a o. number_over (number_or_zero a - 1), (λ a o. given_over (first_of_pair a) (first_over a o), (λ a o. given_over (rest_of_pair a) (rest_over a o), (λ a o. given_over (part_of "PACK" a) (part_over "PACK" a o), (λ a o. given_over (part_of "MINUS" a) (part_over "MINUS" a o), (λ a o. only_over (not (is_numeral a)) (numeral 1) (numeral_over 1), (λ a o. only_over (not (is_numeral a)) (call1 "MINUS" zero_term) (tt, tt), (λ a o. truth_over (not (is_true a)), (λ a o. truth_over (not (is_pair a)), (λ a o. truth_over (number_or_zero a == 0), (λ a o. number_over (number_or_zero a), (λ a o. given_over a o, (λ a o. only_over (is_numeral a) a o, tt)))))))))))))))))))

  rows_of_two_over : Each (λ r. Two r.1) rows_of_two
  rows_of_two_over =
      (λ a b oa ob. truth_over (same_term a b), (λ a b oa ob. truth_over (is_true a && is_true b), (λ a b oa ob. truth_over (is_true a || is_true b), (λ a b oa ob. truth_over (not (is_true a) || is_true b), (λ a b oa ob. truth_over (if is_true a then is_true b else not (is_true b)), (λ a b oa ob. given_over (if nat_lt (number_or_zero a) (number_or_zero b) then b else numeral (number_or_zero a)) (chosen_over (nat_lt (number_or_zero a) (number_or_zero b)) b (numeral (number_or_zero a)) ob (numeral_over (number_or_zero a))), (λ a b oa ob. narrow_over (number_or_zero a + number_or_zero b), (λ a b oa ob. narrow_over (number_or_zero a * number_or_zero b), (λ a b oa ob. number_over (number_or_zero a - number_or_zero b), (λ a b oa ob. number_over (if number_or_zero b == 0 then 0 else number_or_zero a / number_or_zero b), (λ a b oa ob. number_over (if number_or_zero b == 0 then number_or_zero a else number_or_zero a % number_or_zero b), (λ a b oa ob. truth_over (nat_lt (number_or_zero a) (number_or_zero b)), (λ a b oa ob. truth_over (nat_lt (number_or_zero b) (number_or_zero a)), (λ a b oa ob. truth_over (not (nat_lt (number_or_zero b) (number_or_zero a))), (λ a b oa ob. truth_over (not (nat_lt (number_or_zero a) (number_or_zero b))), tt)))))))))))))))

  rows_of_three_over : Each (λ r. Three r.1) rows_of_three
  rows_of_three_over = (λ a b c oa ob oc. given_over (if is_true a then b else c) (chosen_over (is_true a) b c ob oc), tt)

  -- the row under a name
  row_over : {X : Type 0} (Q : X → Type 0) (f : Term) (rows : List (Text × X)) → Each (λ r. Q r.1) rows → (row : X) → row_named f rows ≡ Some row → Q row
  row_over Q f [] all row e = absurd (none_is_not_some row e)
  row_over {X = X} Q f (r ∷ rows) all row e = by_name (λ g. row_over Q f rows all.1 row g) (chosen_some (is_function r.0 f) (Some r.1) (row_named f rows) row e)
    where
      by_name : (row_named f rows ≡ Some row → Q row) → ((is_function r.0 f ≡ true) × (Some r.1 ≡ Some row)) ⊎ (row_named f rows ≡ Some row) → Q row
      by_name again (inl p) = subst Q (some_same r.1 row p.1) all.0
      by_name again (inr p) = again p

  one_over : (a : Term) → Right a → (o : Option (Term → Option Term)) → ((row : Term → Option Term) → o ≡ Some row → One row) →
      Over (elim o as (λ o. Option Term) [ None ↦ None | Some row ↦ row a ])
  one_over a oa None f = nothing_over
  one_over a oa (Some row) f = f row refl a oa

  two_over : (a b : Term) → Right a → Right b → (o : Option (Term → Term → Option Term)) → ((row : Term → Term → Option Term) → o ≡ Some row → Two row) →
      Over (elim o as (λ o. Option Term) [ None ↦ None | Some row ↦ row a b ])
  two_over a b oa ob None f = nothing_over
  two_over a b oa ob (Some row) f = f row refl a b oa ob

  three_over : (a b c : Term) → Right a → Right b → Right c → (o : Option (Term → Term → Term → Option Term)) →
      ((row : Term → Term → Term → Option Term) → o ≡ Some row → Three row) → Over (elim o as (λ o. Option Term) [ None ↦ None | Some row ↦ row a b c ])
  three_over a b c oa ob oc None f = nothing_over
  three_over a b c oa ob oc (Some row) f = f row refl a b c oa ob oc

  tested_over : (b : Bool) (o : Option Term) → Over o → Over (elim b as (λ b. Option Term) [ false ↦ None | true ↦ o ])
  tested_over true o all = all
  tested_over false o all = nothing_over

  pub value_over : (t : Term) → Right t → Over (value_of t)
  value_over (Variable x) o = nothing_over
  value_over (Function f) o = nothing_over
  value_over (Applied (Variable x) a) o = nothing_over
  value_over (Applied (Function f) a) o =
      tested_over (is_value a) (elim (row_named (Function f) rows_of_one) as (λ o. Option Term) [ None ↦ None | Some row ↦ row a ])
      (one_over a o.1 (row_named (Function f) rows_of_one) (λ row e. row_over One (Function f) rows_of_one rows_of_one_over row e))
  value_over (Applied (Applied (Variable x) a) b) o = nothing_over
  value_over (Applied (Applied (Function f) a) b) o =
      tested_over (is_value a && is_value b) (elim (row_named (Function f) rows_of_two) as (λ o. Option Term) [ None ↦ None | Some row ↦ row a b ])
      (two_over a b o.0.1 o.1 (row_named (Function f) rows_of_two) (λ row e. row_over Two (Function f) rows_of_two rows_of_two_over row e))
  value_over (Applied (Applied (Applied f a) b) c) o =
      tested_over (is_value a && is_value b && is_value c) (elim (row_named f rows_of_three) as (λ o. Option Term) [ None ↦ None | Some row ↦ row a b c ])
      (three_over a b c o.0.0.1 o.0.1 o.1 (row_named f rows_of_three) (λ row e. row_over Three f rows_of_three rows_of_three_over row e))
