-- A call on values equals its value by the table.
use Prim.Native.String.{String as Text}
use Rattle.std.proofs.Common.{◌≡◌, ℕ, Bool, true, false, ◌&&◌, ◌⊎◌, ◌^◌, nat_lt, List, [], ◌∷◌, inl, inr, refl, sym, subst}
use Rattle.std.specs.Prelude.{Option, Some, None, codes}
use Rattle.nq_logic.specs.Words.{call1, call2, call3, numeral}
use Rattle.nq_logic.specs.Terms.{Term, Variable, Function, Applied, Each}
use Rattle.nq_logic.specs.Histories.{History}
use Rattle.nq_proof.specs.Paths.{is_function}
use Rattle.nq_logic.specs.Values.{is_value}
use Rattle.nq_proof.specs.Values.{narrow, only_if, rows_of_one, rows_of_two, rows_of_three, row_named, value_of}
use Rattle.nq_proof.proofs.Tests.{and_left, and_right, chosen_some, none_is_not_some, some_same}
use Rattle.nq_proof.proofs.Places.{function_is}
use Rattle.nq_arith.specs.Laws.{ValueHolds}
use Rattle.nq_arith.proofs.ValueForms.{term_of, valued}
use Rattle.nq_arith.proofs.ValueForms
use Rattle.nq_arith.proofs.ValueRows.{Equals, equal_row}
use Rattle.nq_arith.proofs.ValueFunctions.{truep_row, falsep_row, numberp_row, listp_row, litatom_row, negativep_row, sub1_row, car_row, cdr_row, unpack_row, negative_guts_row, add1_row, minus_row, not_row, nlistp_row, zerop_row, fix_row, identity_row, count_row, and_row, or_row, implies_row, iff_row, max_row, plus_row, times_row, difference_row, quotient_row, remainder_row, lessp_row, greaterp_row, leq_row, geq_row, if_row}

-- what holds of each row holds of the one that is found
row_found : {X : Type 0} (P : Text × X → Type 0) (f : Term) (rows : List (Text × X)) (row : X) → Each P rows → row_named f rows ≡ Some row → (name : Text) × (f ≡ Function (codes name)) × P (name, row)
row_found P f [] row all e = absurd (none_is_not_some row e)
row_found {X = X} P f (r ∷ rows) row all e = by_name (λ g. row_found P f rows row all.1 g) (chosen_some (is_function r.0 f) (Some r.1) (row_named f rows) row e)
  where
    by_name : (row_named f rows ≡ Some row → (name : Text) × (f ≡ Function (codes name)) × P (name, row)) → ((is_function r.0 f ≡ true) × (Some r.1 ≡ Some row)) ⊎ (row_named f rows ≡ Some row) → (name : Text) × (f ≡ Function (codes name)) × P (name, row)
    by_name again (inl p) = (r.0, function_is r.0 f p.0, subst (λ x. P (r.0, x)) (some_same r.1 row p.1) all.0)
    by_name again (inr p) = again p

module _ (h : History) where
  abbrev Same : Term → Term → Type 0
  Same t u = Equals h t u

  -- a value that is there in any case, one that is there below 2^128, and one under a condition
  plain : (u s t : Term) → Same u s → Some s ≡ Some t → Same u t
  plain u s t d e = subst (Same u) (some_same s t e) d

  narrowed : (u : Term) (n : ℕ) (t : Term) → Same u (numeral n) → narrow n ≡ Some t → Same u t
  narrowed u n t d e = by_test (chosen_some (nat_lt n (2 ^ 128)) (Some (numeral n)) None t e)
    where
      by_test : ((nat_lt n (2 ^ 128) ≡ true) × (Some (numeral n) ≡ Some t)) ⊎ (None ≡ Some t) → Same u t
      by_test (inl p) = plain u (numeral n) t d p.1
      by_test (inr p) = absurd (none_is_not_some t p)

  limited : (u : Term) (b : Bool) (s t : Term) → (b ≡ true → Same u s) → only_if b s ≡ Some t → Same u t
  limited u true s t d e = plain u s t (d refl) e
  limited u false s t d e = absurd (none_is_not_some t e)

  abbrev HoldsOfOne : Text × (Term → Option Term) → Type 0
  HoldsOfOne row = (v : ValueForms.Value) (t : Term) → row.1 (term_of v) ≡ Some t → Same (call1 row.0 (term_of v)) t

  abbrev HoldsOfTwo : Text × (Term → Term → Option Term) → Type 0
  HoldsOfTwo row = (v w : ValueForms.Value) (t : Term) → row.1 (term_of v) (term_of w) ≡ Some t → Same (call2 row.0 (term_of v) (term_of w)) t

  abbrev HoldsOfThree : Text × (Term → Term → Term → Option Term) → Type 0
  HoldsOfThree row = (v w x : ValueForms.Value) (t : Term) → row.1 (term_of v) (term_of w) (term_of x) ≡ Some t → Same (call3 row.0 (term_of v) (term_of w) (term_of x)) t

  rows_of_one_hold : Each HoldsOfOne rows_of_one
  rows_of_one_hold = (
    λ v t e. plain (call1 "TRUEP" (term_of v)) _ t (truep_row h v) e,
    (
      λ v t e. plain (call1 "FALSEP" (term_of v)) _ t (falsep_row h v) e,
      (
        λ v t e. plain (call1 "NUMBERP" (term_of v)) _ t (numberp_row h v) e,
        (
          λ v t e. plain (call1 "LISTP" (term_of v)) _ t (listp_row h v) e,
          (
            λ v t e. plain (call1 "LITATOM" (term_of v)) _ t (litatom_row h v) e,
            (
              λ v t e. plain (call1 "NEGATIVEP" (term_of v)) _ t (negativep_row h v) e,
              (
                λ v t e. plain (call1 "SUB1" (term_of v)) _ t (sub1_row h v) e,
                (
                  λ v t e. plain (call1 "CAR" (term_of v)) _ t (car_row h v) e,
                  (
                    λ v t e. plain (call1 "CDR" (term_of v)) _ t (cdr_row h v) e,
                    (
                      λ v t e. plain (call1 "UNPACK" (term_of v)) _ t (unpack_row h v) e,
                      (
                        λ v t e. plain (call1 "NEGATIVE-GUTS" (term_of v)) _ t (negative_guts_row h v) e,
                        (
                          λ v t e. limited (call1 "ADD1" (term_of v)) _ _ t (add1_row h v) e,
                          (
                            λ v t e. limited (call1 "MINUS" (term_of v)) _ _ t (minus_row h v) e,
                            (
                              λ v t e. plain (call1 "NOT" (term_of v)) _ t (not_row h v) e,
                              (
                                λ v t e. plain (call1 "NLISTP" (term_of v)) _ t (nlistp_row h v) e,
                                (
                                  λ v t e. plain (call1 "ZEROP" (term_of v)) _ t (zerop_row h v) e,
                                  (
                                    λ v t e. plain (call1 "FIX" (term_of v)) _ t (fix_row h v) e,
                                    (
                                      λ v t e. plain (call1 "IDENTITY" (term_of v)) _ t (identity_row h v) e,
                                      (
                                        λ v t e. limited (call1 "COUNT" (term_of v)) _ _ t (count_row h v) e,
                                        tt,
                                      ),
                                    ),
                                  ),
                                ),
                              ),
                            ),
                          ),
                        ),
                      ),
                    ),
                  ),
                ),
              ),
            ),
          ),
        ),
      ),
    ),
  )

  rows_of_two_hold : Each HoldsOfTwo rows_of_two
  rows_of_two_hold = (
    λ v w t e. plain (call2 "EQUAL" (term_of v) (term_of w)) _ t (equal_row h v w) e,
    (
      λ v w t e. plain (call2 "AND" (term_of v) (term_of w)) _ t (and_row h v w) e,
      (
        λ v w t e. plain (call2 "OR" (term_of v) (term_of w)) _ t (or_row h v w) e,
        (
          λ v w t e. plain (call2 "IMPLIES" (term_of v) (term_of w)) _ t (implies_row h v w) e,
          (
            λ v w t e. plain (call2 "IFF" (term_of v) (term_of w)) _ t (iff_row h v w) e,
            (
              λ v w t e. plain (call2 "MAX" (term_of v) (term_of w)) _ t (max_row h v w) e,
              (
                λ v w t e. narrowed (call2 "PLUS" (term_of v) (term_of w)) _ t (plus_row h v w) e,
                (
                  λ v w t e. narrowed (call2 "TIMES" (term_of v) (term_of w)) _ t (times_row h v w) e,
                  (
                    λ v w t e. plain (call2 "DIFFERENCE" (term_of v) (term_of w)) _ t (difference_row h v w) e,
                    (
                      λ v w t e. plain (call2 "QUOTIENT" (term_of v) (term_of w)) _ t (quotient_row h v w) e,
                      (
                        λ v w t e. plain (call2 "REMAINDER" (term_of v) (term_of w)) _ t (remainder_row h v w) e,
                        (
                          λ v w t e. plain (call2 "LESSP" (term_of v) (term_of w)) _ t (lessp_row h v w) e,
                          (
                            λ v w t e. plain (call2 "GREATERP" (term_of v) (term_of w)) _ t (greaterp_row h v w) e,
                            (
                              λ v w t e. plain (call2 "LEQ" (term_of v) (term_of w)) _ t (leq_row h v w) e,
                              (
                                λ v w t e. plain (call2 "GEQ" (term_of v) (term_of w)) _ t (geq_row h v w) e,
                                tt,
                              ),
                            ),
                          ),
                        ),
                      ),
                    ),
                  ),
                ),
              ),
            ),
          ),
        ),
      ),
    ),
  )

  rows_of_three_hold : Each HoldsOfThree rows_of_three
  rows_of_three_hold = (
    λ v w x t e. plain (call3 "IF" (term_of v) (term_of w) (term_of x)) _ t (if_row h v w x) e,
    tt,
  )

  abbrev Valued : Term → Type 0
  Valued a = (v : ValueForms.Value) × (a ≡ term_of v)

  -- a call with a value, where what is applied is a name and the arguments are values
  call_of_one : (f : Term) (name : Text) (row : Term → Option Term) (a t : Term) → f ≡ Function (codes name) → Valued a → HoldsOfOne (name, row) → row a ≡ Some t → Same (Applied f a) t
  call_of_one f name row a t named va holds e =
      let v = va.0 in
      let d = holds v t (subst (λ x. row x ≡ Some t) va.1 e) in
      subst (λ g. Same (Applied g a) t) (sym named) (subst (λ x. Same (call1 name x) t) (sym va.1) d)

  call_of_two : (f : Term) (name : Text) (row : Term → Term → Option Term) (a b t : Term) → f ≡ Function (codes name) → Valued a → Valued b → HoldsOfTwo (name, row) → row a b ≡ Some t →
      Same (Applied (Applied f a) b) t
  call_of_two f name row a b t named va vb holds e =
      let d = holds va.0 vb.0 t (subst (λ x. row x (term_of vb.0) ≡ Some t) va.1 (subst (λ y. row a y ≡ Some t) vb.1 e)) in
      subst (λ g. Same (Applied (Applied g a) b) t) (sym named) (subst (λ x. Same (call2 name x b) t) (sym va.1) (subst (λ y. Same (call2 name (term_of va.0) y) t) (sym vb.1) d))

  call_of_three : (f : Term) (name : Text) (row : Term → Term → Term → Option Term) (a b c t : Term) → f ≡ Function (codes name) → Valued a → Valued b → Valued c → HoldsOfThree (name, row) → row a b c ≡ Some t →
      Same (Applied (Applied (Applied f a) b) c) t
  call_of_three f name row a b c t named va vb vc holds e =
      let d =
      holds va.0 vb.0 vc.0 t (subst (λ x. row x (term_of vb.0) (term_of vc.0) ≡ Some t) va.1 (subst (λ y. row a y (term_of vc.0) ≡ Some t) vb.1 (subst (λ z. row a b z ≡ Some t) vc.1 e)))
      in
      subst (λ g. Same (Applied (Applied (Applied g a) b) c) t) (sym named)
      (subst (λ x. Same (call3 name x b c) t) (sym va.1) (subst (λ y. Same (call3 name (term_of va.0) y c) t) (sym vb.1) (subst (λ z. Same (call3 name (term_of va.0) (term_of vb.0) z) t) (sym vc.1) d)))

  found_value : (t v : Term) → value_of t ≡ Some v → Same t v
  found_value (Variable x) v e = absurd (none_is_not_some v e)
  found_value (Function f) v e = absurd (none_is_not_some v e)
  found_value (Applied (Variable x) a) v e = absurd (none_is_not_some v e)
  found_value (Applied (Function f) a) v e = by_value (is_value a) refl e
    where
      by_row : Valued a → (o : Option (Term → Option Term)) → row_named (Function f) rows_of_one ≡ o → elim o as (λ o. Option Term) [ None ↦ None | Some row ↦ row a ] ≡ Some v → Same (Applied (Function f) a) v
      by_row va None g e = absurd (none_is_not_some v e)
      by_row va (Some row) g e =
          let r = row_found HoldsOfOne (Function f) rows_of_one row rows_of_one_hold g in
          call_of_one (Function f) r.0 row a v r.1 va r.2 e

      by_value : (b : Bool) → is_value a ≡ b →
          elim b as (λ b. Option Term) [ false ↦ None | true ↦ elim (row_named (Function f) rows_of_one) as (λ o. Option Term) [ None ↦ None | Some row ↦ row a ] ] ≡ Some v → Same (Applied (Function f) a) v
      by_value true g e = by_row (valued a g) (row_named (Function f) rows_of_one) refl e
      by_value false g e = absurd (none_is_not_some v e)
  found_value (Applied (Applied (Variable x) a) b) v e = absurd (none_is_not_some v e)
  found_value (Applied (Applied (Function f) a) b) v e = by_value (is_value a && is_value b) refl e
    where
      by_row : Valued a → Valued b → (o : Option (Term → Term → Option Term)) → row_named (Function f) rows_of_two ≡ o → elim o as (λ o. Option Term) [ None ↦ None | Some row ↦ row a b ] ≡ Some v →
          Same (Applied (Applied (Function f) a) b) v
      by_row va vb None g e = absurd (none_is_not_some v e)
      by_row va vb (Some row) g e =
          let r = row_found HoldsOfTwo (Function f) rows_of_two row rows_of_two_hold g in
          call_of_two (Function f) r.0 row a b v r.1 va vb r.2 e

      by_value : (both : Bool) → is_value a && is_value b ≡ both →
          elim both as (λ b. Option Term) [ false ↦ None | true ↦ elim (row_named (Function f) rows_of_two) as (λ o. Option Term) [ None ↦ None | Some row ↦ row a b ] ] ≡ Some v →
          Same (Applied (Applied (Function f) a) b) v
      by_value true g e = by_row (valued a (and_left (is_value a) (is_value b) g)) (valued b (and_right (is_value a) (is_value b) g)) (row_named (Function f) rows_of_two) refl e
      by_value false g e = absurd (none_is_not_some v e)
  found_value (Applied (Applied (Applied f a) b) c) v e = by_value (is_value a && is_value b && is_value c) refl e
    where
      by_row : Valued a → Valued b → Valued c → (o : Option (Term → Term → Term → Option Term)) → row_named f rows_of_three ≡ o → elim o as (λ o. Option Term) [ None ↦ None | Some row ↦ row a b c ] ≡ Some v →
          Same (Applied (Applied (Applied f a) b) c) v
      by_row va vb vc None g e = absurd (none_is_not_some v e)
      by_row va vb vc (Some row) g e =
          let r = row_found HoldsOfThree f rows_of_three row rows_of_three_hold g in
          call_of_three f r.0 row a b c v r.1 va vb vc r.2 e

      by_value : (all : Bool) → is_value a && is_value b && is_value c ≡ all →
          elim all as (λ b. Option Term) [ false ↦ None | true ↦ elim (row_named f rows_of_three) as (λ o. Option Term) [ None ↦ None | Some row ↦ row a b c ] ] ≡ Some v →
          Same (Applied (Applied (Applied f a) b) c) v
      by_value true g e =
          let both = and_left (is_value a && is_value b) (is_value c) g in
          by_row (valued a (and_left (is_value a) (is_value b) both)) (valued b (and_right (is_value a) (is_value b) both)) (valued c (and_right (is_value a && is_value b) (is_value c) g)) (row_named f rows_of_three) refl e
      by_value false g e = absurd (none_is_not_some v e)

pub value_law : ValueHolds
value_law h t v e = found_value h t v e
