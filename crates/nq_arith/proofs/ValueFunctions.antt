-- What each function of the table gives on values.
use Prim.Native.String.{String as Text}
use Rattle.std.proofs.Common.{◌≡◌, ℕ, zero, suc, ◌+◌, ◌*◌, ◌-◌, ◌/◌, ◌%◌, ◌==◌, nat_lt, Bool, true, false, ◌&&◌, ◌||◌, ◌⊎◌, if◌then◌else◌, inl, inr, refl, sym, subst, arith}
use Rattle.std.specs.Prelude.{not}
use Rattle.nq_logic.specs.Words.{call1, call2, if_term, true_term, false_term, zero_term, numeral}
use Rattle.nq_logic.specs.Terms.{Term, IsTerm}
use Rattle.nq_logic.specs.Ground.{symbols_of}
use Rattle.nq_logic.specs.Histories.{History}
use Rattle.nq_proof.specs.Clauses.{same_term}
use Rattle.nq_logic.specs.Numerals.{number_of, is_numeral}
use Rattle.nq_proof.specs.Values.{truth, is_true, is_pair, is_call_of, part_of, first_of_pair, rest_of_pair, number_or_zero}
use Rattle.nq_laws.proofs.ByFixes.{sum_by_fixes_at, product_by_fixes_at, difference_by_fixes_at, quotient_by_fixes_at, remainder_by_fixes_at, less_by_fixes_at}
use Rattle.nq_laws.proofs.Comparisons.{truth_test_at, falsity_test_at, no_list_test_of_list_at, no_list_test_of_other_at, greater_by_less_at, at_most_where_less_at, at_most_where_not_less_at, at_least_where_less_at, at_least_where_not_less_at, greatest_where_less_at, greatest_where_not_less_at}
use Rattle.nq_laws.proofs.Connectives.{not_of_falsity_at, not_of_truth_at, and_of_truths_at, and_of_first_falsity_at, and_of_second_falsity_at, or_of_first_truth_at, or_of_second_truth_at, or_of_falsities_at, if_of_truth_at}
use Rattle.nq_laws.proofs.Implications.{implies_from_falsity_at, implies_of_truths_at, implies_to_falsity_at, iff_of_truths_at, iff_of_falsities_at, iff_of_first_truth_at, iff_of_second_truth_at, if_of_falsity_at}
use Rattle.nq_laws.proofs.Parts.{first_of_pair_at, rest_of_pair_at, part_of_atom_at, part_of_negative_at, first_of_other_at, rest_of_other_at, atom_part_of_other_at, negative_part_of_other_at, add1_of_other_at, negative_of_other_at, size_of_zero_at, size_step_at}
use Rattle.nq_laws.proofs.PartsByFix.{sub1_with_zero_fix_at, sub1_with_positive_fix_at, zero_test_with_zero_fix_at, zero_test_with_positive_fix_at, fix_where_no_number_at, same_after_identity_at}
use Rattle.nq_laws.proofs.Zero.{fix_of_number_at}
use Rattle.nq_arith.proofs.Numerals.{no_zero, numeral_over, truth_over, number, sum, product, less, difference, quotient, remainder}
use Rattle.nq_arith.proofs.ValueForms.{Value, Truth, Falsity, Number, Pair, Atom, Negative, term_of, counted, term_over, counted_same}
use Rattle.nq_arith.proofs.ValueRows.{Numbers, Lists, Atoms, Negatives, is_number_kind, is_list_kind, is_atom_kind, is_negative_kind, Holds, Equals, kind_test, true_or_falsity, equal_row}

no_first : (n : ℕ) → first_of_pair (numeral n) ≡ zero_term
unfolding numeral
no_first zero = refl
no_first (suc n) = refl

no_rest : (n : ℕ) → rest_of_pair (numeral n) ≡ zero_term
unfolding numeral
no_rest zero = refl
no_rest (suc n) = refl

no_atom_part : (n : ℕ) → part_of "PACK" (numeral n) ≡ zero_term
unfolding numeral
no_atom_part zero = refl
no_atom_part (suc n) = refl

no_negative_part : (n : ℕ) → part_of "MINUS" (numeral n) ≡ zero_term
unfolding numeral
no_negative_part zero = refl
no_negative_part (suc n) = refl

module _ (h : History) where
  abbrev Same : Term → Term → Type 0
  Same t u = Equals h t u

  abbrev Right : Term → Type 0
  Right t = IsTerm (symbols_of h) t

  -- tests
  pub truep_row : (v : Value) → Same (call1 "TRUEP" (term_of v)) (truth (same_term (term_of v) true_term))
  truep_row v = let b = same_term (term_of v) true_term in truth_test_at h (truth b) (term_of v) (truth_over h b) (term_over h v) (equal_row h v Truth)

  pub falsep_row : (v : Value) → Same (call1 "FALSEP" (term_of v)) (truth (same_term (term_of v) false_term))
  falsep_row v = let b = same_term (term_of v) false_term in falsity_test_at h (truth b) (term_of v) (truth_over h b) (term_over h v) (equal_row h v Falsity)

  pub numberp_row : (v : Value) → Same (call1 "NUMBERP" (term_of v)) (truth (is_numeral (term_of v)))
  numberp_row v = subst (λ b. Same (call1 "NUMBERP" (term_of v)) (truth b)) (is_number_kind v) (kind_test h Numbers v)

  pub listp_row : (v : Value) → Same (call1 "LISTP" (term_of v)) (truth (is_pair (term_of v)))
  listp_row v = subst (λ b. Same (call1 "LISTP" (term_of v)) (truth b)) (is_list_kind v) (kind_test h Lists v)

  pub litatom_row : (v : Value) → Same (call1 "LITATOM" (term_of v)) (truth (is_call_of "PACK" (term_of v)))
  litatom_row v = subst (λ b. Same (call1 "LITATOM" (term_of v)) (truth b)) (is_atom_kind v) (kind_test h Atoms v)

  pub negativep_row : (v : Value) → Same (call1 "NEGATIVEP" (term_of v)) (truth (is_call_of "MINUS" (term_of v)))
  negativep_row v = subst (λ b. Same (call1 "NEGATIVEP" (term_of v)) (truth b)) (is_negative_kind v) (kind_test h Negatives v)

  pub nlistp_row : (v : Value) → Same (call1 "NLISTP" (term_of v)) (truth (not (is_pair (term_of v))))
  nlistp_row v = by_test (is_pair (term_of v)) (listp_row v)
    where
      by_test : (b : Bool) → Same (call1 "LISTP" (term_of v)) (truth b) → Same (call1 "NLISTP" (term_of v)) (truth (not b))
      by_test true d = no_list_test_of_list_at h (term_of v) (term_over h v) d
      by_test false d = no_list_test_of_other_at h (term_of v) (term_over h v) d

  -- numbers
  fixed : (v : Value) → Same (call1 "FIX" (term_of v)) (numeral (counted v))
  unfolding numeral
  fixed (Number n e) = fix_of_number_at h (numeral n) (numeral_over h n) (number h n)
  fixed Truth = fix_where_no_number_at h (term_of Truth) (term_over h Truth) (kind_test h Numbers Truth)
  fixed Falsity = fix_where_no_number_at h (term_of Falsity) (term_over h Falsity) (kind_test h Numbers Falsity)
  fixed (Pair v w) = fix_where_no_number_at h (term_of (Pair v w)) (term_over h (Pair v w)) (kind_test h Numbers (Pair v w))
  fixed (Atom v) = fix_where_no_number_at h (term_of (Atom v)) (term_over h (Atom v)) (kind_test h Numbers (Atom v))
  fixed (Negative n e) = fix_where_no_number_at h (term_of (Negative n e)) (term_over h (Negative n e)) (kind_test h Numbers (Negative n e))

  pub fix_row : (v : Value) → Same (call1 "FIX" (term_of v)) (numeral (number_or_zero (term_of v)))
  fix_row v = subst (λ n. Same (call1 "FIX" (term_of v)) (numeral n)) (sym (counted_same v)) (fixed v)

  less_by_one : (t : Term) → Right t → (n : ℕ) → Same (call1 "FIX" t) (numeral n) → Same (call1 "SUB1" t) (numeral (n - 1))
  unfolding numeral
  less_by_one t o zero d = let e : 0 ≡ zero - 1 = omega arith in subst (λ k. Same (call1 "SUB1" t) (numeral k)) e (sub1_with_zero_fix_at h t o d)
  less_by_one t o (suc n) d =
      let e : n ≡ suc n - 1 = omega arith in
      subst (λ k. Same (call1 "SUB1" t) (numeral k)) e (sub1_with_positive_fix_at h (numeral n) t (numeral_over h n) o (number h n) d)

  pub sub1_row : (v : Value) → Same (call1 "SUB1" (term_of v)) (numeral (number_or_zero (term_of v) - 1))
  sub1_row v = less_by_one (term_of v) (term_over h v) (number_or_zero (term_of v)) (fix_row v)

  zero_test : (t : Term) → Right t → (n : ℕ) → Same (call1 "FIX" t) (numeral n) → Same (call1 "ZEROP" t) (truth (n == 0))
  unfolding numeral
  zero_test t o zero d = zero_test_with_zero_fix_at h t o d
  zero_test t o (suc n) d = subst (λ b. Same (call1 "ZEROP" t) (truth b)) (sym (no_zero n)) (zero_test_with_positive_fix_at h (numeral n) t (numeral_over h n) o d)

  pub zerop_row : (v : Value) → Same (call1 "ZEROP" (term_of v)) (truth (number_or_zero (term_of v) == 0))
  zerop_row v = zero_test (term_of v) (term_over h v) (number_or_zero (term_of v)) (fix_row v)

  -- parts
  pub car_row : (v : Value) → Same (call1 "CAR" (term_of v)) (first_of_pair (term_of v))
  car_row (Pair v w) = first_of_pair_at h (term_of v) (term_of w) (term_over h v) (term_over h w)
  car_row (Number n e) = subst (Same (call1 "CAR" (numeral n))) (sym (no_first n)) (first_of_other_at h (numeral n) (numeral_over h n) (kind_test h Lists (Number n e)))
  car_row Truth = first_of_other_at h (term_of Truth) (term_over h Truth) (kind_test h Lists Truth)
  car_row Falsity = first_of_other_at h (term_of Falsity) (term_over h Falsity) (kind_test h Lists Falsity)
  car_row (Atom v) = first_of_other_at h (term_of (Atom v)) (term_over h (Atom v)) (kind_test h Lists (Atom v))
  car_row (Negative n e) = first_of_other_at h (term_of (Negative n e)) (term_over h (Negative n e)) (kind_test h Lists (Negative n e))

  pub cdr_row : (v : Value) → Same (call1 "CDR" (term_of v)) (rest_of_pair (term_of v))
  cdr_row (Pair v w) = rest_of_pair_at h (term_of v) (term_of w) (term_over h v) (term_over h w)
  cdr_row (Number n e) = subst (Same (call1 "CDR" (numeral n))) (sym (no_rest n)) (rest_of_other_at h (numeral n) (numeral_over h n) (kind_test h Lists (Number n e)))
  cdr_row Truth = rest_of_other_at h (term_of Truth) (term_over h Truth) (kind_test h Lists Truth)
  cdr_row Falsity = rest_of_other_at h (term_of Falsity) (term_over h Falsity) (kind_test h Lists Falsity)
  cdr_row (Atom v) = rest_of_other_at h (term_of (Atom v)) (term_over h (Atom v)) (kind_test h Lists (Atom v))
  cdr_row (Negative n e) = rest_of_other_at h (term_of (Negative n e)) (term_over h (Negative n e)) (kind_test h Lists (Negative n e))

  pub unpack_row : (v : Value) → Same (call1 "UNPACK" (term_of v)) (part_of "PACK" (term_of v))
  unpack_row (Atom v) = part_of_atom_at h (term_of v) (term_over h v)
  unpack_row (Number n e) = subst (Same (call1 "UNPACK" (numeral n))) (sym (no_atom_part n)) (atom_part_of_other_at h (numeral n) (numeral_over h n) (kind_test h Atoms (Number n e)))
  unpack_row Truth = atom_part_of_other_at h (term_of Truth) (term_over h Truth) (kind_test h Atoms Truth)
  unpack_row Falsity = atom_part_of_other_at h (term_of Falsity) (term_over h Falsity) (kind_test h Atoms Falsity)
  unpack_row (Pair v w) = atom_part_of_other_at h (term_of (Pair v w)) (term_over h (Pair v w)) (kind_test h Atoms (Pair v w))
  unpack_row (Negative n e) = atom_part_of_other_at h (term_of (Negative n e)) (term_over h (Negative n e)) (kind_test h Atoms (Negative n e))

  pub negative_guts_row : (v : Value) → Same (call1 "NEGATIVE-GUTS" (term_of v)) (part_of "MINUS" (term_of v))
  negative_guts_row (Negative n e) = part_of_negative_at h (numeral n) (numeral_over h n) (number h n)
  negative_guts_row (Number n e) =
      subst (Same (call1 "NEGATIVE-GUTS" (numeral n))) (sym (no_negative_part n)) (negative_part_of_other_at h (numeral n) (numeral_over h n) (kind_test h Negatives (Number n e)))
  negative_guts_row Truth = negative_part_of_other_at h (term_of Truth) (term_over h Truth) (kind_test h Negatives Truth)
  negative_guts_row Falsity = negative_part_of_other_at h (term_of Falsity) (term_over h Falsity) (kind_test h Negatives Falsity)
  negative_guts_row (Pair v w) = negative_part_of_other_at h (term_of (Pair v w)) (term_over h (Pair v w)) (kind_test h Negatives (Pair v w))
  negative_guts_row (Atom v) = negative_part_of_other_at h (term_of (Atom v)) (term_over h (Atom v)) (kind_test h Negatives (Atom v))

  -- ADD1 and MINUS of what is no numeral
  no_number : (v : Value) → not (is_numeral (term_of v)) ≡ true → Same (call1 "NUMBERP" (term_of v)) false_term
  no_number v e = by_test (is_numeral (term_of v)) e (numberp_row v)
    where
      by_test : (b : Bool) → not b ≡ true → Same (call1 "NUMBERP" (term_of v)) (truth b) → Same (call1 "NUMBERP" (term_of v)) false_term
      by_test true e d = absurd cc
      by_test false e d = d

  pub add1_row : (v : Value) → not (is_numeral (term_of v)) ≡ true → Same (call1 "ADD1" (term_of v)) (numeral 1)
  unfolding numeral
  add1_row v e = add1_of_other_at h (term_of v) (term_over h v) (no_number v e)

  pub minus_row : (v : Value) → not (is_numeral (term_of v)) ≡ true → Same (call1 "MINUS" (term_of v)) (call1 "MINUS" zero_term)
  minus_row v e = negative_of_other_at h (term_of v) (term_over h v) (no_number v e)

  size_of_numeral : (n : ℕ) → Same (call1 "COUNT" (numeral n)) (numeral n)
  unfolding numeral
  size_of_numeral zero = size_of_zero_at h
  size_of_numeral (suc n) = size_step_at h (numeral n) (numeral_over h n) (number h n) (size_of_numeral n)

  pub count_row : (v : Value) → is_numeral (term_of v) ≡ true → Same (call1 "COUNT" (term_of v)) (term_of v)
  unfolding number_of
  count_row (Number n e) d = size_of_numeral n
  count_row Truth d = absurd cc
  count_row Falsity d = absurd cc
  count_row (Pair v w) d = absurd cc
  count_row (Atom v) d = absurd cc
  count_row (Negative n e) d = absurd cc

  pub identity_row : (v : Value) → Same (call1 "IDENTITY" (term_of v)) (term_of v)
  identity_row v = same_after_identity_at h (term_of v) (term_over h v)

  -- truth values
  pub not_row : (v : Value) → Same (call1 "NOT" (term_of v)) (truth (not (is_true (term_of v))))
  not_row v = by_truth (true_or_falsity h v)
    where
      by_truth : ((is_true (term_of v) ≡ true) × Holds h (term_of v)) ⊎ (term_of v ≡ false_term) → Same (call1 "NOT" (term_of v)) (truth (not (is_true (term_of v))))
      by_truth (inl p) = subst (λ b. Same (call1 "NOT" (term_of v)) (truth (not b))) (sym p.0) (not_of_truth_at h (term_of v) (term_over h v) p.1)
      by_truth (inr e) = subst (λ t. Same (call1 "NOT" t) (truth (not (is_true t)))) (sym e) (not_of_falsity_at h)

  -- a function of two truth values, where its four rows are known
  by_truths : (f : Text) (row : Bool → Bool → Bool) →
      ((t u : Term) → Right t → Right u → Holds h t → Holds h u → Same (call2 f t u) (truth (row true true))) →
      ((t : Term) → Right t → Holds h t → Same (call2 f t false_term) (truth (row true false))) →
      ((u : Term) → Right u → Holds h u → Same (call2 f false_term u) (truth (row false true))) →
      Same (call2 f false_term false_term) (truth (row false false)) →
      (v w : Value) → Same (call2 f (term_of v) (term_of w)) (truth (row (is_true (term_of v)) (is_true (term_of w))))
  by_truths f row both first second none v w = by_first (true_or_falsity h v)
    where
      by_second_true : is_true (term_of v) ≡ true → Holds h (term_of v) → ((is_true (term_of w) ≡ true) × Holds h (term_of w)) ⊎ (term_of w ≡ false_term) →
          Same (call2 f (term_of v) (term_of w)) (truth (row true (is_true (term_of w))))
      by_second_true e d (inl p) = subst (λ b. Same (call2 f (term_of v) (term_of w)) (truth (row true b))) (sym p.0) (both (term_of v) (term_of w) (term_over h v) (term_over h w) d p.1)
      by_second_true e d (inr g) = subst (λ u. Same (call2 f (term_of v) u) (truth (row true (is_true u)))) (sym g) (first (term_of v) (term_over h v) d)

      by_second_false : ((is_true (term_of w) ≡ true) × Holds h (term_of w)) ⊎ (term_of w ≡ false_term) → Same (call2 f false_term (term_of w)) (truth (row false (is_true (term_of w))))
      by_second_false (inl p) = subst (λ b. Same (call2 f false_term (term_of w)) (truth (row false b))) (sym p.0) (second (term_of w) (term_over h w) p.1)
      by_second_false (inr g) = subst (λ u. Same (call2 f false_term u) (truth (row false (is_true u)))) (sym g) none

      by_first : ((is_true (term_of v) ≡ true) × Holds h (term_of v)) ⊎ (term_of v ≡ false_term) → Same (call2 f (term_of v) (term_of w)) (truth (row (is_true (term_of v)) (is_true (term_of w))))
      by_first (inl p) = subst (λ b. Same (call2 f (term_of v) (term_of w)) (truth (row b (is_true (term_of w))))) (sym p.0) (by_second_true p.0 p.1 (true_or_falsity h w))
      by_first (inr e) = subst (λ t. Same (call2 f t (term_of w)) (truth (row (is_true t) (is_true (term_of w))))) (sym e) (by_second_false (true_or_falsity h w))

  false_over : Right false_term
  false_over = truth_over h false

  pub and_row : (v w : Value) → Same (call2 "AND" (term_of v) (term_of w)) (truth (is_true (term_of v) && is_true (term_of w)))
  and_row = by_truths "AND" (λ a b. a && b) (λ t u o p d e. and_of_truths_at h t u o p d e) (λ t o d. and_of_second_falsity_at h t o) (λ u o d. and_of_first_falsity_at h u o) (and_of_first_falsity_at h false_term false_over)

  pub or_row : (v w : Value) → Same (call2 "OR" (term_of v) (term_of w)) (truth (is_true (term_of v) || is_true (term_of w)))
  or_row = by_truths "OR" (λ a b. a || b) (λ t u o p d e. or_of_first_truth_at h t u o p d) (λ t o d. or_of_first_truth_at h t false_term o false_over d) (λ u o d. or_of_second_truth_at h false_term u false_over o d) (or_of_falsities_at h)

  pub implies_row : (v w : Value) → Same (call2 "IMPLIES" (term_of v) (term_of w)) (truth (not (is_true (term_of v)) || is_true (term_of w)))
  implies_row = by_truths "IMPLIES" (λ a b. not a || b) (λ t u o p d e. implies_of_truths_at h t u o p d e) (λ t o d. implies_to_falsity_at h t o d) (λ u o d. implies_from_falsity_at h u o) (implies_from_falsity_at h false_term false_over)

  pub iff_row : (v w : Value) → Same (call2 "IFF" (term_of v) (term_of w)) (truth (if is_true (term_of v) then is_true (term_of w) else not (is_true (term_of w))))
  iff_row = by_truths "IFF" (λ a b. if a then b else not b) (λ t u o p d e. iff_of_truths_at h t u o p d e) (λ t o d. iff_of_first_truth_at h t o d) (λ u o d. iff_of_second_truth_at h u o d) (iff_of_falsities_at h)

  pub if_row : (v w x : Value) → Same (if_term (term_of v) (term_of w) (term_of x)) (if is_true (term_of v) then term_of w else term_of x)
  if_row v w x = by_truth (true_or_falsity h v)
    where
      by_truth : ((is_true (term_of v) ≡ true) × Holds h (term_of v)) ⊎ (term_of v ≡ false_term) → Same (if_term (term_of v) (term_of w) (term_of x)) (if is_true (term_of v) then term_of w else term_of x)
      by_truth (inl p) =
          subst (λ b. Same (if_term (term_of v) (term_of w) (term_of x)) (if b then term_of w else term_of x)) (sym p.0)
          (if_of_truth_at h (term_of v) (term_of w) (term_of x) (term_over h v) (term_over h w) (term_over h x) p.1)
      by_truth (inr e) =
          subst (λ t. Same (if_term t (term_of w) (term_of x)) (if is_true t then term_of w else term_of x)) (sym e) (if_of_falsity_at h (term_of w) (term_of x) (term_over h w) (term_over h x))

  -- functions of two numbers
  module _ (v w : Value) where
    abbrev m : ℕ
    m = number_or_zero (term_of v)

    abbrev n : ℕ
    n = number_or_zero (term_of w)

    pub plus_row : Same (call2 "PLUS" (term_of v) (term_of w)) (numeral (m + n))
    plus_row =
        sum_by_fixes_at h (numeral m) (numeral n) (numeral (m + n)) (term_of v) (term_of w) (numeral_over h m) (numeral_over h n) (numeral_over h (m + n)) (term_over h v) (term_over h w) (fix_row v) (fix_row w) (sum h m n)

    pub times_row : Same (call2 "TIMES" (term_of v) (term_of w)) (numeral (m * n))
    times_row =
        product_by_fixes_at h (numeral m) (numeral n) (numeral (m * n)) (term_of v) (term_of w) (numeral_over h m) (numeral_over h n) (numeral_over h (m * n)) (term_over h v) (term_over h w) (fix_row v) (fix_row w) (product h m n)

    pub difference_row : Same (call2 "DIFFERENCE" (term_of v) (term_of w)) (numeral (m - n))
    difference_row =
        difference_by_fixes_at h (numeral m) (numeral n) (numeral (m - n)) (term_of v) (term_of w) (numeral_over h m) (numeral_over h n) (numeral_over h (m - n)) (term_over h v) (term_over h w) (fix_row v) (fix_row w) (difference h m n)

    pub quotient_row : Same (call2 "QUOTIENT" (term_of v) (term_of w)) (numeral (if n == 0 then 0 else m / n))
    quotient_row =
        let q = if n == 0 then 0 else m / n in
        quotient_by_fixes_at h (numeral m) (numeral n) (numeral q) (term_of v) (term_of w) (numeral_over h m) (numeral_over h n) (numeral_over h q) (term_over h v) (term_over h w) (fix_row v) (fix_row w) (quotient h m n)

    pub remainder_row : Same (call2 "REMAINDER" (term_of v) (term_of w)) (numeral (if n == 0 then m else m % n))
    remainder_row =
        let r = if n == 0 then m else m % n in
        remainder_by_fixes_at h (numeral m) (numeral n) (numeral r) (term_of v) (term_of w) (numeral_over h m) (numeral_over h n) (numeral_over h r) (term_over h v) (term_over h w) (fix_row v) (fix_row w) (remainder h m n)

    pub lessp_row : Same (call2 "LESSP" (term_of v) (term_of w)) (truth (nat_lt m n))
    lessp_row =
        let b = truth (nat_lt m n) in
        less_by_fixes_at h (numeral m) (numeral n) b (term_of v) (term_of w) (numeral_over h m) (numeral_over h n) (truth_over h (nat_lt m n)) (term_over h v) (term_over h w) (fix_row v) (fix_row w) (less h m n)

  pub greaterp_row : (v w : Value) → Same (call2 "GREATERP" (term_of v) (term_of w)) (truth (nat_lt (number_or_zero (term_of w)) (number_or_zero (term_of v))))
  greaterp_row v w =
      let b = nat_lt (number_or_zero (term_of w)) (number_or_zero (term_of v)) in
      greater_by_less_at h (truth b) (term_of v) (term_of w) (truth_over h b) (term_over h v) (term_over h w) (lessp_row w v)

  pub leq_row : (v w : Value) → Same (call2 "LEQ" (term_of v) (term_of w)) (truth (not (nat_lt (number_or_zero (term_of w)) (number_or_zero (term_of v)))))
  leq_row v w = by_test (nat_lt (number_or_zero (term_of w)) (number_or_zero (term_of v))) (lessp_row w v)
    where
      by_test : (b : Bool) → Same (call2 "LESSP" (term_of w) (term_of v)) (truth b) → Same (call2 "LEQ" (term_of v) (term_of w)) (truth (not b))
      by_test true d = at_most_where_less_at h (term_of v) (term_of w) (term_over h v) (term_over h w) d
      by_test false d = at_most_where_not_less_at h (term_of v) (term_of w) (term_over h v) (term_over h w) d

  pub geq_row : (v w : Value) → Same (call2 "GEQ" (term_of v) (term_of w)) (truth (not (nat_lt (number_or_zero (term_of v)) (number_or_zero (term_of w)))))
  geq_row v w = by_test (nat_lt (number_or_zero (term_of v)) (number_or_zero (term_of w))) (lessp_row v w)
    where
      by_test : (b : Bool) → Same (call2 "LESSP" (term_of v) (term_of w)) (truth b) → Same (call2 "GEQ" (term_of v) (term_of w)) (truth (not b))
      by_test true d = at_least_where_less_at h (term_of v) (term_of w) (term_over h v) (term_over h w) d
      by_test false d = at_least_where_not_less_at h (term_of v) (term_of w) (term_over h v) (term_over h w) d

  pub max_row : (v w : Value) → Same (call2 "MAX" (term_of v) (term_of w)) (if nat_lt (number_or_zero (term_of v)) (number_or_zero (term_of w)) then term_of w else numeral (number_or_zero (term_of v)))
  max_row v w = by_test (nat_lt (number_or_zero (term_of v)) (number_or_zero (term_of w))) (lessp_row v w)
    where
      by_test : (b : Bool) → Same (call2 "LESSP" (term_of v) (term_of w)) (truth b) → Same (call2 "MAX" (term_of v) (term_of w)) (if b then term_of w else numeral (number_or_zero (term_of v)))
      by_test true d = greatest_where_less_at h (term_of v) (term_of w) (term_over h v) (term_over h w) d
      by_test false d =
          greatest_where_not_less_at h (numeral (number_or_zero (term_of v))) (term_of v) (term_of w) (numeral_over h (number_or_zero (term_of v))) (term_over h v) (term_over h w) d (fix_row v)
