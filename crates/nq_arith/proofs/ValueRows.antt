-- What each function gives on values.
use Prim.Native.String.{String as Text}
use Rattle.std.proofs.Common.{◌≡◌, ℕ, zero, suc, Bool, true, false, ◌⊎◌, [], ◌∷◌, inl, inr, refl, sym, ap, subst}
use Rattle.std.specs.Prelude.{not}
use Rattle.nq_logic.specs.Words.{call1, equal_term, true_term, false_term, numeral}
use Rattle.nq_logic.specs.Terms.{Term}
use Rattle.nq_logic.specs.Formulas.{clause}
use Rattle.nq_logic.specs.Histories.{History}
use Rattle.nq_logic.specs.Derivations.{Derivable}
use Rattle.nq_proof.specs.Clauses.{same_term}
use Rattle.nq_logic.specs.Numerals.{number_of, is_numeral}
use Rattle.nq_proof.specs.Values.{truth, is_true, is_pair, is_call_of}
use Rattle.nq_proof.proofs.Tests.{same_true}
use Rattle.nq_laws.proofs.AtomTests.{literal_atom_test_of_truth_at, literal_atom_test_of_falsity_at, literal_atom_test_of_literal_atom_at, literal_atom_test_of_number_at, literal_atom_test_of_list_at, literal_atom_test_of_negative_at, literal_atom_is_true_at, apart_by_first_literal_atom_at, apart_by_second_literal_atom_at}
use Rattle.nq_laws.proofs.Connectives.{truth_is_true_at}
use Rattle.nq_laws.proofs.Distinct.{zero_differs_from_add1_at, add1_differs_from_zero_at, add1s_differ_at, firsts_differ_at, rests_differ_at, atoms_differ_at, negatives_differ_at}
use Rattle.nq_laws.proofs.ListTests.{list_test_of_truth_at, list_test_of_falsity_at, list_test_of_list_at, list_test_of_number_at, list_test_of_literal_atom_at, list_test_of_negative_at, list_is_true_at, apart_by_first_list_at, apart_by_second_list_at}
use Rattle.nq_laws.proofs.NegativeTests.{negative_test_of_truth_at, negative_test_of_falsity_at, negative_test_of_negative_at, negative_test_of_number_at, negative_test_of_list_at, negative_test_of_literal_atom_at, negative_is_true_at, apart_by_first_negative_at, apart_by_second_negative_at, pair_is_list_at, atom_is_literal_atom_at, negative_is_negative_at}
use Rattle.nq_laws.proofs.NumberTests.{number_test_of_truth_at, number_test_of_falsity_at, number_test_of_number_at, number_test_of_list_at, number_test_of_literal_atom_at, number_test_of_negative_at, number_is_true_at, apart_by_first_number_at, apart_by_second_number_at}
use Rattle.nq_laws.proofs.TruthValues.{same_are_equal_at, truth_differs_from_falsity_at, falsity_differs_from_truth_at}
use Rattle.nq_arith.proofs.Numerals.{numeral_over, number}
use Rattle.nq_arith.proofs.ValueForms.{Value, Truth, Falsity, Number, Pair, Atom, Negative, term_of, term_over}
use Rattle.nq_proof.proofs.Numbers.{numeral_is_numeral}

-- the kinds that a recognizer tells
pub data Kind : Type 0 where
  Numbers : Kind
  Lists : Kind
  Atoms : Kind
  Negatives : Kind

abbrev pub recognizer : Kind → Text
recognizer Numbers = "NUMBERP"
recognizer Lists = "LISTP"
recognizer Atoms = "LITATOM"
recognizer Negatives = "NEGATIVEP"

abbrev pub has_kind : Kind → Value → Bool
has_kind Numbers (Number n e) = true
has_kind Lists (Pair v w) = true
has_kind Atoms (Atom v) = true
has_kind Negatives (Negative n e) = true
has_kind k v = false

-- the recognizers of the table tell the same kinds
no_pair : (n : ℕ) → is_pair (numeral n) ≡ false
unfolding numeral
no_pair zero = refl
no_pair (suc n) = refl

no_atom : (n : ℕ) → is_call_of "PACK" (numeral n) ≡ false
unfolding numeral
no_atom zero = refl
no_atom (suc n) = refl

no_negative : (n : ℕ) → is_call_of "MINUS" (numeral n) ≡ false
unfolding numeral
no_negative zero = refl
no_negative (suc n) = refl

pub is_number_kind : (v : Value) → has_kind Numbers v ≡ is_numeral (term_of v)
unfolding number_of
is_number_kind Truth = refl
is_number_kind Falsity = refl
is_number_kind (Number n e) = sym (numeral_is_numeral n e)
is_number_kind (Pair v w) = refl
is_number_kind (Atom v) = refl
is_number_kind (Negative n e) = refl

pub is_list_kind : (v : Value) → has_kind Lists v ≡ is_pair (term_of v)
is_list_kind Truth = refl
is_list_kind Falsity = refl
is_list_kind (Number n e) = sym (no_pair n)
is_list_kind (Pair v w) = refl
is_list_kind (Atom v) = refl
is_list_kind (Negative n e) = refl

pub is_atom_kind : (v : Value) → has_kind Atoms v ≡ is_call_of "PACK" (term_of v)
is_atom_kind Truth = refl
is_atom_kind Falsity = refl
is_atom_kind (Number n e) = sym (no_atom n)
is_atom_kind (Pair v w) = refl
is_atom_kind (Atom v) = refl
is_atom_kind (Negative n e) = refl

pub is_negative_kind : (v : Value) → has_kind Negatives v ≡ is_call_of "MINUS" (term_of v)
is_negative_kind Truth = refl
is_negative_kind Falsity = refl
is_negative_kind (Number n e) = sym (no_negative n)
is_negative_kind (Pair v w) = refl
is_negative_kind (Atom v) = refl
is_negative_kind (Negative n e) = refl

numeral_is_no_falsity : (n : ℕ) → same_term (numeral n) false_term ≡ false
unfolding numeral
numeral_is_no_falsity zero = refl
numeral_is_no_falsity (suc n) = refl

module _ (h : History) where
  abbrev pub Holds : Term → Type 0
  Holds t = Derivable h (clause (t ∷ []))

  abbrev pub Equals : Term → Term → Type 0
  Equals t u = Derivable h (clause (equal_term t u ∷ []))

  list_here : (v w : Value) → Holds (call1 "LISTP" (term_of (Pair v w)))
  list_here v w = pair_is_list_at h (term_of v) (term_of w) (term_over h v) (term_over h w)

  atom_here : (v : Value) → Holds (call1 "LITATOM" (term_of (Atom v)))
  atom_here v = atom_is_literal_atom_at h (term_of v) (term_over h v)

  negative_here : (n : ℕ) → Holds (call1 "NEGATIVEP" (call1 "MINUS" (numeral n)))
  negative_here n = negative_is_negative_at h (numeral n) (numeral_over h n)

  -- each recognizer on each value
  pub kind_test : (k : Kind) (v : Value) → Equals (call1 (recognizer k) (term_of v)) (truth (has_kind k v))
  kind_test Numbers Truth = number_test_of_truth_at h
  kind_test Numbers Falsity = number_test_of_falsity_at h
  kind_test Numbers (Number n e) = number_test_of_number_at h (numeral n) (numeral_over h n) (number h n)
  kind_test Numbers (Pair v w) = number_test_of_list_at h (term_of (Pair v w)) (term_over h (Pair v w)) (list_here v w)
  kind_test Numbers (Atom v) = number_test_of_literal_atom_at h (term_of (Atom v)) (term_over h (Atom v)) (atom_here v)
  kind_test Numbers (Negative n e) = number_test_of_negative_at h (term_of (Negative n e)) (term_over h (Negative n e)) (negative_here n)
  kind_test Lists Truth = list_test_of_truth_at h
  kind_test Lists Falsity = list_test_of_falsity_at h
  kind_test Lists (Number n e) = list_test_of_number_at h (numeral n) (numeral_over h n) (number h n)
  kind_test Lists (Pair v w) = list_test_of_list_at h (term_of (Pair v w)) (term_over h (Pair v w)) (list_here v w)
  kind_test Lists (Atom v) = list_test_of_literal_atom_at h (term_of (Atom v)) (term_over h (Atom v)) (atom_here v)
  kind_test Lists (Negative n e) = list_test_of_negative_at h (term_of (Negative n e)) (term_over h (Negative n e)) (negative_here n)
  kind_test Atoms Truth = literal_atom_test_of_truth_at h
  kind_test Atoms Falsity = literal_atom_test_of_falsity_at h
  kind_test Atoms (Number n e) = literal_atom_test_of_number_at h (numeral n) (numeral_over h n) (number h n)
  kind_test Atoms (Pair v w) = literal_atom_test_of_list_at h (term_of (Pair v w)) (term_over h (Pair v w)) (list_here v w)
  kind_test Atoms (Atom v) = literal_atom_test_of_literal_atom_at h (term_of (Atom v)) (term_over h (Atom v)) (atom_here v)
  kind_test Atoms (Negative n e) = literal_atom_test_of_negative_at h (term_of (Negative n e)) (term_over h (Negative n e)) (negative_here n)
  kind_test Negatives Truth = negative_test_of_truth_at h
  kind_test Negatives Falsity = negative_test_of_falsity_at h
  kind_test Negatives (Number n e) = negative_test_of_number_at h (numeral n) (numeral_over h n) (number h n)
  kind_test Negatives (Pair v w) = negative_test_of_list_at h (term_of (Pair v w)) (term_over h (Pair v w)) (list_here v w)
  kind_test Negatives (Atom v) = negative_test_of_literal_atom_at h (term_of (Atom v)) (term_over h (Atom v)) (atom_here v)
  kind_test Negatives (Negative n e) = negative_test_of_negative_at h (term_of (Negative n e)) (term_over h (Negative n e)) (negative_here n)

  -- a value is F, or it is true
  abbrev pub IsTrueOrFalsity : Value → Type 0
  IsTrueOrFalsity v = ((is_true (term_of v) ≡ true) × Holds (term_of v)) ⊎ (term_of v ≡ false_term)

  pub true_or_falsity : (v : Value) → IsTrueOrFalsity v
  true_or_falsity Truth = inl (refl, truth_is_true_at h)
  true_or_falsity Falsity = inr refl
  true_or_falsity (Number n e) = inl (ap not (numeral_is_no_falsity n), number_is_true_at h (numeral n) (numeral_over h n) (number h n))
  true_or_falsity (Pair v w) = inl (refl, list_is_true_at h (term_of (Pair v w)) (term_over h (Pair v w)) (list_here v w))
  true_or_falsity (Atom v) = inl (refl, literal_atom_is_true_at h (term_of (Atom v)) (term_over h (Atom v)) (atom_here v))
  true_or_falsity (Negative n e) = inl (refl, negative_is_true_at h (term_of (Negative n e)) (term_over h (Negative n e)) (negative_here n))

  -- values that differ
  abbrev Differ : Term → Term → Type 0
  Differ t u = Equals (equal_term t u) false_term

  numerals_differ : (m n : ℕ) → same_term (numeral m) (numeral n) ≡ false → Differ (numeral m) (numeral n)
  unfolding numeral
  numerals_differ zero zero e = absurd cc
  numerals_differ zero (suc n) e = zero_differs_from_add1_at h (numeral n) (numeral_over h n)
  numerals_differ (suc m) zero e = add1_differs_from_zero_at h (numeral m) (numeral_over h m)
  numerals_differ (suc m) (suc n) e = add1s_differ_at h (numeral m) (numeral n) (numeral_over h m) (numeral_over h n) (number h m) (number h n) (numerals_differ m n e)

  -- the first is of the kind and the second is not, or the other way round
  apart_first : (k : Kind) (v w : Value) → has_kind k v ≡ true → has_kind k w ≡ false → Differ (term_of v) (term_of w)
  apart_first k v w e f =
      by_kind k (subst (λ b. Equals (call1 (recognizer k) (term_of v)) (truth b)) e (kind_test k v)) (subst (λ b. Equals (call1 (recognizer k) (term_of w)) (truth b)) f (kind_test k w))
    where
      by_kind : (k : Kind) → Equals (call1 (recognizer k) (term_of v)) true_term → Equals (call1 (recognizer k) (term_of w)) false_term → Differ (term_of v) (term_of w)
      by_kind Numbers = apart_by_first_number_at h (term_of v) (term_of w) (term_over h v) (term_over h w)
      by_kind Lists = apart_by_first_list_at h (term_of v) (term_of w) (term_over h v) (term_over h w)
      by_kind Atoms = apart_by_first_literal_atom_at h (term_of v) (term_of w) (term_over h v) (term_over h w)
      by_kind Negatives = apart_by_first_negative_at h (term_of v) (term_of w) (term_over h v) (term_over h w)

  apart_second : (k : Kind) (v w : Value) → has_kind k v ≡ false → has_kind k w ≡ true → Differ (term_of v) (term_of w)
  apart_second k v w e f =
      by_kind k (subst (λ b. Equals (call1 (recognizer k) (term_of v)) (truth b)) e (kind_test k v)) (subst (λ b. Equals (call1 (recognizer k) (term_of w)) (truth b)) f (kind_test k w))
    where
      by_kind : (k : Kind) → Equals (call1 (recognizer k) (term_of v)) false_term → Equals (call1 (recognizer k) (term_of w)) true_term → Differ (term_of v) (term_of w)
      by_kind Numbers = apart_by_second_number_at h (term_of v) (term_of w) (term_over h v) (term_over h w)
      by_kind Lists = apart_by_second_list_at h (term_of v) (term_of w) (term_over h v) (term_over h w)
      by_kind Atoms = apart_by_second_literal_atom_at h (term_of v) (term_of w) (term_over h v) (term_over h w)
      by_kind Negatives = apart_by_second_negative_at h (term_of v) (term_of w) (term_over h v) (term_over h w)

  values_differ : (v w : Value) → same_term (term_of v) (term_of w) ≡ false → Differ (term_of v) (term_of w)
  values_differ (Number m d) (Number n e) s = numerals_differ m n s
  values_differ (Number m d) w s = apart_first Numbers (Number m d) w refl refl
  values_differ v (Number n e) s = apart_second Numbers v (Number n e) refl refl
  values_differ (Pair a b) (Pair c d) s =
      by_first (λ e. values_differ a c e) (λ e. values_differ b d e) (same_term (term_of a) (term_of c)) refl s
    where
      by_first : (same_term (term_of a) (term_of c) ≡ false → Differ (term_of a) (term_of c)) → (same_term (term_of b) (term_of d) ≡ false → Differ (term_of b) (term_of d)) →
          (same : Bool) → same_term (term_of a) (term_of c) ≡ same → elim same as (λ b. Bool) [ true ↦ same_term (term_of b) (term_of d) | false ↦ false ] ≡ false → Differ (term_of (Pair a b)) (term_of (Pair c d))
      by_first firsts rests true e f =
          rests_differ_at h (term_of a) (term_of b) (term_of c) (term_of d) (term_over h a) (term_over h b) (term_over h c) (term_over h d) (rests f)
      by_first firsts rests false e f =
          firsts_differ_at h (term_of a) (term_of b) (term_of c) (term_of d) (term_over h a) (term_over h b) (term_over h c) (term_over h d) (firsts e)
  values_differ (Pair a b) w s = apart_first Lists (Pair a b) w refl refl
  values_differ v (Pair c d) s = apart_second Lists v (Pair c d) refl refl
  values_differ (Atom a) (Atom b) s = atoms_differ_at h (term_of a) (term_of b) (term_over h a) (term_over h b) (values_differ a b s)
  values_differ (Atom a) w s = apart_first Atoms (Atom a) w refl refl
  values_differ v (Atom b) s = apart_second Atoms v (Atom b) refl refl
  values_differ (Negative m d) (Negative n e) s = negatives_differ_at h (numeral m) (numeral n) (numeral_over h m) (numeral_over h n) (number h m) (number h n) (numerals_differ m n s)
  values_differ (Negative m d) w s = apart_first Negatives (Negative m d) w refl refl
  values_differ v (Negative n e) s = apart_second Negatives v (Negative n e) refl refl
  values_differ Truth Truth s = absurd cc
  values_differ Truth Falsity s = truth_differs_from_falsity_at h
  values_differ Falsity Truth s = falsity_differs_from_truth_at h
  values_differ Falsity Falsity s = absurd cc

  -- EQUAL of two values
  pub equal_row : (v w : Value) → Equals (equal_term (term_of v) (term_of w)) (truth (same_term (term_of v) (term_of w)))
  equal_row v w = by_test (same_term (term_of v) (term_of w)) refl
    where
      by_test : (b : Bool) → same_term (term_of v) (term_of w) ≡ b → Equals (equal_term (term_of v) (term_of w)) (truth b)
      by_test true e = subst (λ t. Equals (equal_term (term_of v) t) true_term) (same_true (term_of v) (term_of w) e) (same_are_equal_at h (term_of v) (term_over h v))
      by_test false e = values_differ v w e
