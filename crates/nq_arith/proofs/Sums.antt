-- Literals whose expressions have a negative sum are not all false.
use Rattle.std.proofs.Common.{if◌then◌else◌, ◌≡◌, ℕ, Bool, true, false, ◌&&◌, ◌⊎◌, List, [], ◌∷◌, map, inl, inr, refl, sym, ap, subst, arith}
use Rattle.std.specs.Prelude.{ℤ, pos, negsuc, neg_ℤ, int_le, int_lt, Option, Some, None, codes, bytes_eq}
use Rattle.std.proofs.lemmas.Bool.Decides.{nat_tests}
use Rattle.nq_logic.specs.Words.{call2, not_term, equal_term, zero_term, add1_term, numeral}
use Rattle.nq_logic.specs.Terms.{Term, Variable, Function, Applied, IsTerm, IsAmong, Each}
use Rattle.nq_logic.specs.Ground.{symbols_of}
use Rattle.nq_logic.specs.Formulas.{clause}
use Rattle.nq_logic.specs.Histories.{History}
use Rattle.nq_logic.specs.Laws.{IsClause}
use Rattle.nq_logic.specs.Derivations.{Derivable}
use Rattle.nq_logic.proofs.Symbols.{zero_symbol, add1_symbol, lessp_symbol, not_symbol}
use Rattle.nq_logic.proofs.Lists.{each_among}
use Rattle.nq_logic.proofs.Clauses.{more_literals, cut_law}
use Rattle.nq_logic.proofs.Replacements.{reflexivity_law}
use Rattle.nq_logic.specs.Numerals.{number_of, is_numeral}
use Rattle.nq_proof.specs.Paths.{is_function}
use Rattle.nq_proof.specs.Values.{number_or_zero, or_zero}
use Rattle.nq_proof.specs.Linear.{Form, and_then, bounded, constant_form, atom_form, added, scaled, sum_form, multiple_form, form_of, difference_form, expression_of, has_no_positive, is_negative}
use Rattle.nq_proof.specs.Rules.{Summand, is_forwards, sum_of_summands, are_factors, is_refuted}
use Rattle.nq_proof.proofs.Tests.{and_left, and_right, chosen_some, none_is_not_some, some_same}
use Rattle.nq_proof.proofs.Places.{function_is}
use Rattle.nq_laws.proofs.Balanced.{constant_balances_at, negative_constant_balances_at, atom_balances_at, sum_balances_alone_at, add1_balances_at, product_balances_at, product_balances_turned_at}
use Rattle.nq_laws.proofs.Bounds.{sums_not_less_clause_at, multiples_not_less_clause_at, nothing_less_than_itself_at, bound_of_less_clause_at, bound_of_equation_clause_at, bound_of_equation_turned_clause_at}
use Rattle.nq_laws.proofs.Refutations.{bound_of_not_less_clause_at, negative_is_less_at, no_atom_is_zero_at, no_constant_is_zero_at}
use Rattle.nq_arith.proofs.Numerals.{numeral_over}
use Rattle.nq_arith.proofs.ValueForms.{number_of_numeral, numbered}
use Rattle.nq_arith.proofs.ValueRows.{Equals}
use Rattle.nq_arith.proofs.Forms.{plus_part, minus_part, and_then_some, bounded_is, Atoms, plus, times, weighed, part_of_form, Right, AtomsRight, plus_over, times_over, weighed_over, form_over, StandsFor, added_stands, multiple_stands, turned_stands}
use Rattle.nq_arith.specs.Laws.{LinearHolds}

numeral_again : (t : Term) → is_numeral t ≡ true → t ≡ numeral (number_or_zero t)
numeral_again t e =
    let n = numbered t e in
    subst (λ u. u ≡ numeral (number_or_zero u)) (sym n.1.1) (ap numeral (sym (number_of_numeral n.0 n.1.0)))

abbrev less : Term → Term → Term
less a b = call2 "LESSP" a b

-- both sides of a sum of forms that are there
sum_form_some : (o p : Option Form) (k : Form) → sum_form o p ≡ Some k → (x : Form) × (o ≡ Some x) × (y : Form) × (p ≡ Some y) × (added x y ≡ Some k)
sum_form_some o p k e =
    let first = and_then_some o (λ x. and_then p (λ y. added x y)) k e in
    let second = and_then_some p (λ y. added first.0 y) k first.2 in
    (first.0, first.1, second.0, second.1, second.2)

constant_same : (z : ℤ) (f : Form) → constant_form z ≡ Some f → ◌≡◌ {A = Form} (record { constant = z; atoms = [] }) f
constant_same z f e =
    let found = and_then_some (bounded z) (λ n. Some (record { constant = n; atoms = [] })) f e in
    subst (λ m. ◌≡◌ {A = Form} (record { constant = m; atoms = [] }) f) (sym (bounded_is z found.0 found.1)) (some_same (record { constant = found.0; atoms = [] }) f found.2)

-- a function without arguments counts as 0
no_argument_is_zero : (g : List ℕ) → number_or_zero (Function g) ≡ 0
unfolding number_of
no_argument_is_zero g = by_name (bytes_eq g (codes "ZERO"))
  where
    by_name : (b : Bool) → or_zero (if b then Some 0 else None) ≡ 0
    by_name true = refl
    by_name false = refl

no_plus_part : (z : ℤ) → int_le z (pos 0) ≡ true → plus_part z ≡ 0
no_plus_part (pos n) e = grind (arith, nat_tests)
no_plus_part (negsuc n) e = refl

not_below_zero : (n : ℕ) → int_lt (pos n) (pos 0) ≡ true → ⊥
not_below_zero n e = grind (arith, nat_tests)

module _ (h : History) where
  -- forms of terms
  abbrev Stands : Term → Form → Type 0
  Stands t f = StandsFor h t zero_term f

  zero_over : Right h zero_term
  zero_over = zero_symbol h

  atom_stands : (t : Term) (f : Form) → Right h t → atom_form t ≡ Some f → Stands t f
  unfolding numeral
  atom_stands t f o e = subst (Stands t) (some_same (record { constant = pos 0; atoms = (t, pos 1) ∷ [] }) f e) (o, zero_over, (o, tt), atom_balances_at h t o)

  constant_stands : (n : ℕ) (f : Form) → constant_form (pos n) ≡ Some f → Stands (numeral n) f
  unfolding numeral
  constant_stands n f e = subst (Stands (numeral n)) (constant_same (pos n) f e) (numeral_over h n, zero_over, tt, constant_balances_at h (numeral n) (numeral_over h n))

  one_less_stands : (f : Form) → constant_form (neg_ℤ (pos 1)) ≡ Some f → StandsFor h zero_term (numeral 1) f
  unfolding numeral
  one_less_stands f e = subst (StandsFor h zero_term (numeral 1)) (constant_same (neg_ℤ (pos 1)) f e) (zero_over, numeral_over h 1, tt, negative_constant_balances_at h (numeral 1) (numeral_over h 1))

  numeral_stands : (t : Term) (f : Form) → is_numeral t ≡ true → constant_form (pos (number_or_zero t)) ≡ Some f → Stands t f
  numeral_stands t f n e = subst (λ u. Stands u f) (sym (numeral_again t n)) (constant_stands (number_or_zero t) f e)

  add1_stands : (t : Term) (o : Option Form) (k : Form) → Right h t → ((f : Form) → o ≡ Some f → Stands t f) → sum_form o (constant_form (pos 1)) ≡ Some k → Stands (add1_term t) k
  unfolding numeral
  add1_stands t o k ot again e =
      let both = sum_form_some o (constant_form (pos 1)) k e in
      let s = added_stands h t zero_term (numeral 1) zero_term both.0 both.2 k (again both.0 both.1) (constant_stands 1 both.2 both.3) both.4 in (
        (add1_symbol h, ot),
        zero_over,
        s.2,
        add1_balances_at h t (part_of_form minus_part k) (part_of_form plus_part k) ot (form_over h minus_part k s.2) (form_over h plus_part k s.2) s.3,
      )

  sum_stands : (a b : Term) (o p : Option Form) (k : Form) → ((f : Form) → o ≡ Some f → Stands a f) → ((f : Form) → p ≡ Some f → Stands b f) → sum_form o p ≡ Some k → Stands (plus a b) k
  sum_stands a b o p k first second e =
      let both = sum_form_some o p k e in
      let sa = first both.0 both.1 in
      let sb = second both.2 both.3 in
      let s = added_stands h a zero_term b zero_term both.0 both.2 k sa sb both.4 in
      (s.0, zero_over, s.2, sum_balances_alone_at h a b (part_of_form minus_part k) (part_of_form plus_part k) sa.0 sb.0 (form_over h minus_part k s.2) (form_over h plus_part k s.2) s.3)

  -- a numeral's multiple, where the numeral stands on the left and where it stands on the right
  multiple_here : (n b : Term) (o : Option Form) (k : Form) → is_numeral n ≡ true → ((f : Form) → o ≡ Some f → Stands b f) → multiple_form n o ≡ Some k → StandsFor h (times n b) (times n zero_term) k
  multiple_here n b o k numeric again e =
      let first = and_then_some (constant_form (pos (number_or_zero n))) (λ x. and_then o (λ y. scaled x.constant y)) k e in
      let second = and_then_some o (λ y. scaled first.0.constant y) k first.2 in
      let factor = ap (λ f. f.constant) (constant_same (pos (number_or_zero n)) first.0 first.1) in
      let e2 = subst (λ z. scaled z second.0 ≡ Some k) (sym factor) second.2 in
      subst (λ m. StandsFor h (times m b) (times m zero_term) k) (sym (numeral_again n numeric)) (multiple_stands h (number_or_zero n) b zero_term second.0 k (again second.0 second.1) e2)

  product_stands : (n b : Term) (o : Option Form) (k : Form) → Right h n → is_numeral n ≡ true → ((f : Form) → o ≡ Some f → Stands b f) → multiple_form n o ≡ Some k → Right h b → Stands (times n b) k
  product_stands n b o k on numeric again e ob =
      let s = multiple_here n b o k numeric again e in
      (s.0, zero_over, s.2, product_balances_at h b n (part_of_form minus_part k) (part_of_form plus_part k) ob on (form_over h minus_part k s.2) (form_over h plus_part k s.2) s.3)

  product_stands_turned : (n b : Term) (o : Option Form) (k : Form) → Right h n → is_numeral n ≡ true → ((f : Form) → o ≡ Some f → Stands b f) → multiple_form n o ≡ Some k → Right h b → Stands (times b n) k
  product_stands_turned n b o k on numeric again e ob =
      let s = multiple_here n b o k numeric again e in
      (times_over h b n ob on, zero_over, s.2, product_balances_turned_at h b n (part_of_form minus_part k) (part_of_form plus_part k) ob on (form_over h minus_part k s.2) (form_over h plus_part k s.2) s.3)

  form_stands : (t : Term) (f : Form) → Right h t → form_of t ≡ Some f → Stands t f
  form_stands (Variable x) f o e = atom_stands (Variable x) f o e
  form_stands (Function g) f o e = by_test (is_numeral (Function g)) refl e
    where
      by_test : (b : Bool) → is_numeral (Function g) ≡ b → elim b as (λ b. Option Form) [ true ↦ constant_form (pos 0) | false ↦ atom_form (Function g) ] ≡ Some f → Stands (Function g) f
      by_test true n d = numeral_stands (Function g) f n (subst (λ m. constant_form (pos m) ≡ Some f) (sym (no_argument_is_zero g)) d)
      by_test false n d = atom_stands (Function g) f o d
  form_stands (Applied (Variable x) t) f o e = atom_stands (Applied (Variable x) t) f o e
  form_stands (Applied (Function g) t) f o e =
      by_number (λ k d. form_stands t k o.1 d)
      (chosen_some (is_numeral (Applied (Function g) t)) (constant_form (pos (number_or_zero (Applied (Function g) t)))) (elim (is_function "ADD1" (Function g)) as (λ b. Option Form) [ true ↦ sum_form (form_of t) (constant_form (pos 1)) | false ↦ atom_form (Applied (Function g) t) ]) f e)
    where
      by_name : ((k : Form) → form_of t ≡ Some k → Stands t k) → ((is_function "ADD1" (Function g) ≡ true) × (sum_form (form_of t) (constant_form (pos 1)) ≡ Some f)) ⊎ (atom_form (Applied (Function g) t) ≡ Some f) → Stands (Applied (Function g) t) f
      by_name again (inl p) = subst (λ u. Stands (Applied u t) f) (sym (function_is "ADD1" (Function g) p.0)) (add1_stands t (form_of t) f o.1 again p.1)
      by_name again (inr d) = atom_stands (Applied (Function g) t) f o d

      by_number : ((k : Form) → form_of t ≡ Some k → Stands t k) →
          ((is_numeral (Applied (Function g) t) ≡ true) × (constant_form (pos (number_or_zero (Applied (Function g) t))) ≡ Some f)) ⊎ (elim (is_function "ADD1" (Function g)) as (λ b. Option Form) [ true ↦ sum_form (form_of t) (constant_form (pos 1)) | false ↦ atom_form (Applied (Function g) t) ] ≡ Some f) →
          Stands (Applied (Function g) t) f
      by_number again (inl p) = numeral_stands (Applied (Function g) t) f p.0 p.1
      by_number again (inr d) = by_name again (chosen_some (is_function "ADD1" (Function g)) (sum_form (form_of t) (constant_form (pos 1))) (atom_form (Applied (Function g) t)) f d)
  form_stands (Applied (Applied g a) b) f o e =
      by_plus (λ k d. form_stands a k o.0.1 d) (λ k d. form_stands b k o.1 d) (chosen_some (is_function "PLUS" g) (sum_form (form_of a) (form_of b)) after_plus f e)
    where
      after_times : Option Form
      after_times = elim (is_function "TIMES" g && is_numeral b) as (λ b. Option Form) [ true ↦ multiple_form b (form_of a) | false ↦ atom_form (Applied (Applied g a) b) ]

      after_plus : Option Form
      after_plus = elim (is_function "TIMES" g && is_numeral a) as (λ b. Option Form) [ true ↦ multiple_form a (form_of b) | false ↦ after_times ]

      by_right : ((k : Form) → form_of a ≡ Some k → Stands a k) → ((is_function "TIMES" g && is_numeral b ≡ true) × (multiple_form b (form_of a) ≡ Some f)) ⊎ (atom_form (Applied (Applied g a) b) ≡ Some f) → Stands (Applied (Applied g a) b) f
      by_right first (inl p) =
          subst (λ u. Stands (Applied (Applied u a) b) f) (sym (function_is "TIMES" g (and_left (is_function "TIMES" g) (is_numeral b) p.0)))
          (product_stands_turned b a (form_of a) f o.1 (and_right (is_function "TIMES" g) (is_numeral b) p.0) first p.1 o.0.1)
      by_right first (inr d) = atom_stands (Applied (Applied g a) b) f o d

      by_left : ((k : Form) → form_of a ≡ Some k → Stands a k) → ((k : Form) → form_of b ≡ Some k → Stands b k) → ((is_function "TIMES" g && is_numeral a ≡ true) × (multiple_form a (form_of b) ≡ Some f)) ⊎ (after_times ≡ Some f) → Stands (Applied (Applied g a) b) f
      by_left first second (inl p) =
          subst (λ u. Stands (Applied (Applied u a) b) f) (sym (function_is "TIMES" g (and_left (is_function "TIMES" g) (is_numeral a) p.0)))
          (product_stands a b (form_of b) f o.0.1 (and_right (is_function "TIMES" g) (is_numeral a) p.0) second p.1 o.1)
      by_left first second (inr d) = by_right first (chosen_some (is_function "TIMES" g && is_numeral b) (multiple_form b (form_of a)) (atom_form (Applied (Applied g a) b)) f d)

      by_plus : ((k : Form) → form_of a ≡ Some k → Stands a k) → ((k : Form) → form_of b ≡ Some k → Stands b k) → ((is_function "PLUS" g ≡ true) × (sum_form (form_of a) (form_of b) ≡ Some f)) ⊎ (after_plus ≡ Some f) → Stands (Applied (Applied g a) b) f
      by_plus first second (inl p) = subst (λ u. Stands (Applied (Applied u a) b) f) (sym (function_is "PLUS" g p.0)) (sum_stands a b (form_of a) (form_of b) f first second p.1)
      by_plus first second (inr d) = by_left first second (chosen_some (is_function "TIMES" g && is_numeral a) (multiple_form a (form_of b)) after_times f d)

  difference_stands : (a b : Term) (k : Form) → Right h a → Right h b → difference_form a b ≡ Some k → StandsFor h (plus a zero_term) (plus zero_term b) k
  difference_stands a b k oa ob e =
      let both = sum_form_some (form_of a) (and_then (form_of b) (λ y. scaled (neg_ℤ (pos 1)) y)) k e in
      let second = and_then_some (form_of b) (λ y. scaled (neg_ℤ (pos 1)) y) both.2 both.3 in
      added_stands h a zero_term zero_term b both.0 both.2 k (form_stands a both.0 oa both.1) (turned_stands h b zero_term second.0 both.2 (form_stands b second.0 ob second.1) second.2) both.4

  -- what a false literal tells: the first is not less than the second
  abbrev Bound : Term → Term → Term → Type 0
  Bound literal a b = (d : List Term) → IsClause h d → IsAmong literal d → Derivable h (clause (not_term (less a b) ∷ d))

  less_over : (a b : Term) → Right h a → Right h b → Right h (less a b)
  less_over a b oa ob = ((lessp_symbol h, oa), ob)

  no_less_over : (a b : Term) → Right h a → Right h b → Right h (not_term (less a b))
  no_less_over a b oa ob = (not_symbol h, less_over a b oa ob)

  bound_by : (literal a b : Term) → Right h a → Right h b → Derivable h (clause (literal ∷ not_term (less a b) ∷ [])) → Bound literal a b
  bound_by literal a b oa ob c d over m = more_literals h (literal ∷ not_term (less a b) ∷ []) (not_term (less a b) ∷ d) c (no_less_over a b oa ob, over) (inr m, (inl refl, tt))

  abbrev Expressed : Term → Form → Type 0
  Expressed literal f = (a : Term) × (b : Term) × StandsFor h a b f × Bound literal a b

  -- the bound that a literal gives, with its form
  expressed_less : (a b : Term) (forwards : Bool) (f : Form) → Right h a → Right h b → difference_form a b ≡ Some f → Expressed (less a b) f
  expressed_less a b forwards f oa ob e =
      let s = difference_stands a b f oa ob e in
      (plus a zero_term, plus zero_term b, s, bound_by (less a b) (plus a zero_term) (plus zero_term b) s.0 s.1 (bound_of_less_clause_at h a b oa ob))

  expressed_not_less : (a b : Term) (f : Form) → Right h a → Right h b → sum_form (difference_form b a) (constant_form (neg_ℤ (pos 1))) ≡ Some f → Expressed (not_term (less a b)) f
  unfolding numeral
  expressed_not_less a b f oa ob e =
      let both = sum_form_some (difference_form b a) (constant_form (neg_ℤ (pos 1))) f e in
      let s = added_stands h (plus b zero_term) (plus zero_term a) zero_term (numeral 1) both.0 both.2 f (difference_stands b a both.0 ob oa both.1) (one_less_stands both.2 both.3) both.4 in (
        plus (plus b zero_term) zero_term,
        plus (plus zero_term a) (numeral 1),
        s,
        bound_by (not_term (less a b)) (plus (plus b zero_term) zero_term) (plus (plus zero_term a) (numeral 1)) s.0 s.1 (bound_of_not_less_clause_at h a b oa ob),
      )

  expressed_equal : (a b : Term) (forwards : Bool) (f : Form) → Right h a → Right h b → elim forwards as (λ b. Option Form) [ true ↦ difference_form a b | false ↦ difference_form b a ] ≡ Some f →
      Expressed (not_term (equal_term a b)) f
  expressed_equal a b true f oa ob e =
      let s = difference_stands a b f oa ob e in
      (plus a zero_term, plus zero_term b, s, bound_by (not_term (equal_term a b)) (plus a zero_term) (plus zero_term b) s.0 s.1 (bound_of_equation_clause_at h a b oa ob))
  expressed_equal a b false f oa ob e =
      let s = difference_stands b a f ob oa e in
      (plus b zero_term, plus zero_term a, s, bound_by (not_term (equal_term a b)) (plus b zero_term) (plus zero_term a) s.0 s.1 (bound_of_equation_turned_clause_at h a b oa ob))

  -- where a literal has the shape of a comparison, and where it has that of the NOT of one
  expressed_call : (g a b : Term) (forwards : Bool) (f : Form) → Right h a → Right h b → elim (is_function "LESSP" g && forwards) as (λ b. Option Form) [ true ↦ difference_form a b | false ↦ None ] ≡ Some f →
      Expressed (Applied (Applied g a) b) f
  expressed_call g a b forwards f oa ob e = by_name (chosen_some (is_function "LESSP" g && forwards) (difference_form a b) None f e)
    where
      by_name : ((is_function "LESSP" g && forwards ≡ true) × (difference_form a b ≡ Some f)) ⊎ (None ≡ Some f) → Expressed (Applied (Applied g a) b) f
      by_name (inl p) = subst (λ u. Expressed (Applied (Applied u a) b) f) (sym (function_is "LESSP" g (and_left (is_function "LESSP" g) forwards p.0))) (expressed_less a b forwards f oa ob p.1)
      by_name (inr p) = absurd (none_is_not_some f p)

  abbrev equation_form : Bool → Term → Term → Option Form
  equation_form forwards a b = elim forwards as (λ b. Option Form) [ true ↦ difference_form a b | false ↦ difference_form b a ]

  abbrev after_less : Term → Term → Term → Term → Bool → Option Form
  after_less m g a b forwards = elim (is_function "NOT" m && is_function "EQUAL" g) as (λ b. Option Form) [ true ↦ equation_form forwards a b | false ↦ None ]

  expressed_denial : (m g a b : Term) (forwards : Bool) (f : Form) → Right h a → Right h b →
      elim (is_function "NOT" m && is_function "LESSP" g && forwards) as (λ b. Option Form) [
        | true ↦ sum_form (difference_form b a) (constant_form (neg_ℤ (pos 1)))
        | false ↦ after_less m g a b forwards
      ] ≡ Some f → Expressed (Applied m (Applied (Applied g a) b)) f
  expressed_denial m g a b forwards f oa ob e =
      by_less (chosen_some (is_function "NOT" m && is_function "LESSP" g && forwards) (sum_form (difference_form b a) (constant_form (neg_ℤ (pos 1)))) (after_less m g a b forwards) f e)
    where
      by_equal : ((is_function "NOT" m && is_function "EQUAL" g ≡ true) × (equation_form forwards a b ≡ Some f)) ⊎ (None ≡ Some f) → Expressed (Applied m (Applied (Applied g a) b)) f
      by_equal (inl p) =
          subst (λ u. Expressed (Applied u (Applied (Applied g a) b)) f) (sym (function_is "NOT" m (and_left (is_function "NOT" m) (is_function "EQUAL" g) p.0)))
          (subst (λ u. Expressed (not_term (Applied (Applied u a) b)) f) (sym (function_is "EQUAL" g (and_right (is_function "NOT" m) (is_function "EQUAL" g) p.0))) (expressed_equal a b forwards f oa ob p.1))
      by_equal (inr p) = absurd (none_is_not_some f p)

      by_less : ((is_function "NOT" m && is_function "LESSP" g && forwards ≡ true) × (sum_form (difference_form b a) (constant_form (neg_ℤ (pos 1))) ≡ Some f)) ⊎ (after_less m g a b forwards ≡ Some f) →
          Expressed (Applied m (Applied (Applied g a) b)) f
      by_less (inl p) =
          let both = and_left (is_function "NOT" m && is_function "LESSP" g) forwards p.0 in
          subst (λ u. Expressed (Applied u (Applied (Applied g a) b)) f) (sym (function_is "NOT" m (and_left (is_function "NOT" m) (is_function "LESSP" g) both)))
          (subst (λ u. Expressed (not_term (Applied (Applied u a) b)) f) (sym (function_is "LESSP" g (and_right (is_function "NOT" m) (is_function "LESSP" g) both))) (expressed_not_less a b f oa ob p.1))
      by_less (inr p) = by_equal (chosen_some (is_function "NOT" m && is_function "EQUAL" g) (equation_form forwards a b) None f p)

  expressed : (forwards : Bool) (t : Term) (f : Form) → Right h t → expression_of forwards t ≡ Some f → Expressed t f
  expressed forwards (Variable x) f o e = absurd (none_is_not_some f e)
  expressed forwards (Function g) f o e = absurd (none_is_not_some f e)
  expressed forwards (Applied (Applied g a) b) f o e = expressed_call g a b forwards f o.0.1 o.1 e
  expressed forwards (Applied (Variable x) u) f o e = absurd o.0
  expressed forwards (Applied (Function m) (Variable x)) f o e = absurd (none_is_not_some f e)
  expressed forwards (Applied (Function m) (Function g)) f o e = absurd (none_is_not_some f e)
  expressed forwards (Applied (Function m) (Applied (Variable x) b)) f o e = absurd (none_is_not_some f e)
  expressed forwards (Applied (Function m) (Applied (Function g) b)) f o e = absurd (none_is_not_some f e)
  expressed forwards (Applied (Function m) (Applied (Applied g a) b)) f o e = expressed_denial (Function m) g a b forwards f o.1.0.1 o.1.1 e

  -- sums of bounds, all beside one clause
  module _ (d : List Term) (od : IsClause h d) where
    abbrev Refuses : Term → Term → Type 0
    Refuses a b = Derivable h (clause (not_term (less a b) ∷ d))

    multiple_refuses : (k a b : Term) → Right h k → Right h a → Right h b → Refuses a b → Refuses (times k a) (times k b)
    multiple_refuses k a b ok oa ob r =
        let u = not_term (less (times k a) (times k b)) in
        let ou = no_less_over (times k a) (times k b) (times_over h k a ok oa) (times_over h k b ok ob) in
        cut_law h (less a b) (less a b ∷ u ∷ []) (not_term (less a b) ∷ d) (u ∷ d) (multiples_not_less_clause_at h a b k oa ob ok) r (less_over a b oa ob) (ou, od) (inl (inl refl), (inr (inl refl), tt))
        (inl (inl refl), each_among (λ p. IsAmong p (not_term (less a b) ∷ []) ⊎ IsAmong p (u ∷ d)) d (λ p m. inr (inr m)))

    sum_refuses : (a b c e : Term) → Right h a → Right h b → Right h c → Right h e → Refuses a b → Refuses c e → Refuses (plus a c) (plus b e)
    sum_refuses a b c e oa ob oc oe r s =
        let u = not_term (less (plus a c) (plus b e)) in
        let ou = no_less_over (plus a c) (plus b e) (plus_over h a c oa oc) (plus_over h b e ob oe) in
        let l = less a b in
        let k = less c e in
        let ok = less_over c e oc oe in
        let first =
        cut_law h l (l ∷ k ∷ u ∷ []) (not_term l ∷ d) (k ∷ u ∷ d) (sums_not_less_clause_at h a b c e oa ob oc oe) r (less_over a b oa ob) (ok, (ou, od)) (inl (inl refl), (inr (inl refl), (inr (inr (inl refl)), tt)))
        (inl (inl refl), each_among (λ p. IsAmong p (not_term l ∷ []) ⊎ IsAmong p (k ∷ u ∷ d)) d (λ p m. inr (inr (inr m))))
        in
        cut_law h k (k ∷ u ∷ d) (not_term k ∷ d) (u ∷ d) first s ok (ou, od)
        (inl (inl refl), (inr (inl refl), each_among (λ p. IsAmong p (k ∷ []) ⊎ IsAmong p (u ∷ d)) d (λ p m. inr (inr m))))
        (inl (inl refl), each_among (λ p. IsAmong p (not_term k ∷ []) ⊎ IsAmong p (u ∷ d)) d (λ p m. inr (inr m)))

    -- a form stands for two terms, of which the first is not less than the second
    abbrev Sums : Option Form → Type 0
    Sums o = (f : Form) → o ≡ Some f → (a : Term) × (b : Term) × StandsFor h a b f × Refuses a b

    one_more_sums : (s : Summand) (o : Option Form) → Right h s.literal → IsAmong s.literal d → Sums o → Sums (sum_form o (and_then (expression_of (is_forwards s.side) s.literal) (λ e. scaled (pos s.factor) e)))
    one_more_sums s o right among sums f e =
        let both = sum_form_some o (and_then (expression_of (is_forwards s.side) s.literal) (λ e. scaled (pos s.factor) e)) f e in
        let second = and_then_some (expression_of (is_forwards s.side) s.literal) (λ e. scaled (pos s.factor) e) both.2 both.3 in
        let so_far = sums both.0 both.1 in
        let found = expressed (is_forwards s.side) s.literal second.0 right second.1 in
        let k = numeral s.factor in
        let ok = numeral_over h s.factor in
        let multiple = multiple_stands h s.factor found.0 found.1 second.0 both.2 found.2 second.2 in (
          plus so_far.0 (times k found.0),
          plus so_far.1 (times k found.1),
          added_stands h so_far.0 so_far.1 (times k found.0) (times k found.1) both.0 both.2 f so_far.2 multiple both.4,
          sum_refuses so_far.0 so_far.1 (times k found.0) (times k found.1) so_far.2.0 so_far.2.1 multiple.0 multiple.1 so_far.3 (multiple_refuses k found.0 found.1 ok found.2.0 found.2.1 (found.3 d od among)),
        )

    all_sums : (rest : List Summand) (o : Option Form) → Each (IsTerm (symbols_of h)) (map (λ s. s.literal) rest) → Each (λ p. IsAmong p d) (map (λ s. s.literal) rest) → Sums o → Sums (sum_of_summands o rest)
    all_sums [] o over among sums = sums
    all_sums (s ∷ rest) o over among sums =
        all_sums rest (sum_form o (and_then (expression_of (is_forwards s.side) s.literal) (λ e. scaled (pos s.factor) e))) over.1 among.1 (one_more_sums s o over.0 among.0 sums)

    nothing_sums : Sums (constant_form (pos 0))
    unfolding numeral
    nothing_sums f e =
        let c = not_term (less zero_term zero_term) in
        (zero_term, zero_term, constant_stands 0 f e, more_literals h (c ∷ []) (c ∷ d) (nothing_less_than_itself_at h) (no_less_over zero_term zero_term zero_over zero_over, od) (inl refl, tt))

    -- a form without positive factors, and with a negative constant
    no_positive_is_zero : (atoms : Atoms) → AtomsRight h atoms → has_no_positive atoms ≡ true → Equals h (weighed plus_part atoms) zero_term
    unfolding numeral
    no_positive_is_zero [] over e = reflexivity_law h zero_term zero_over
    no_positive_is_zero (a ∷ atoms) over e =
        let factor = no_plus_part a.1 (and_left (int_le a.1 (pos 0)) (has_no_positive atoms) e) in
        let rest = no_positive_is_zero atoms over.1 (and_right (int_le a.1 (pos 0)) (has_no_positive atoms) e) in
        subst (λ n. Equals h (plus (times (numeral n) a.0) (weighed plus_part atoms)) zero_term) (sym factor)
        (no_atom_is_zero_at h a.0 (weighed plus_part atoms) over.0 (weighed_over h plus_part atoms over.1) rest)

    negative_refutes : (a b : Term) (constant : ℤ) (atoms : Atoms) → StandsFor h a b (record { constant = constant; atoms = atoms }) → Refuses a b → int_lt constant (pos 0) ≡ true → has_no_positive atoms ≡ true → Derivable h (clause d)
    unfolding numeral
    negative_refutes a b (pos n) atoms s r e f = absurd (not_below_zero n e)
    negative_refutes a b (negsuc n) atoms s r e f =
        let plus_side = weighed plus_part atoms in
        let minus_side = weighed minus_part atoms in
        let op = weighed_over h plus_part atoms s.2 in
        let om = weighed_over h minus_part atoms s.2 in
        let l =
        negative_is_less_at h a b (numeral n) (plus zero_term plus_side) minus_side s.0 s.1 (numeral_over h n) (plus_over h zero_term plus_side zero_over op) om s.3
        (no_constant_is_zero_at h plus_side op (no_positive_is_zero atoms s.2 f))
        in
        cut_law h (less a b) (less a b ∷ []) (not_term (less a b) ∷ d) d l r (less_over a b s.0 s.1) od (inl (inl refl), tt)
        (inl (inl refl), each_among (λ p. IsAmong p (not_term (less a b) ∷ []) ⊎ IsAmong p d) d (λ p m. inr m))

    sum_refutes : (o : Option Form) → Sums o → is_negative o ≡ true → Derivable h (clause d)
    sum_refutes None sums e = absurd cc
    sum_refutes (Some f) sums e =
        let found = sums f refl in
        negative_refutes found.0 found.1 f.constant f.atoms found.2 found.3 (and_left (int_lt f.constant (pos 0)) (has_no_positive f.atoms) e) (and_right (int_lt f.constant (pos 0)) (has_no_positive f.atoms) e)

-- what a refuted sum's literals are among is derivable
pub refuted_holds : (h : History) (summands : List Summand) (d : List Term) → is_refuted summands ≡ true → Each (IsTerm (symbols_of h)) (map (λ s. s.literal) summands) → IsClause h d →
    Each (λ p. IsAmong p d) (map (λ s. s.literal) summands) → Derivable h (clause d)
refuted_holds h summands d e over od among =
    sum_refutes h d od (sum_of_summands (constant_form (pos 0)) summands) (all_sums h d od summands (constant_form (pos 0)) over among (nothing_sums h d od))
    (and_right (are_factors summands) (is_negative (sum_of_summands (constant_form (pos 0)) summands)) e)

pub linear_law : LinearHolds
linear_law h summands refuted over =
    let c = map (λ s. s.literal) summands in
    refuted_holds h summands c refuted over over (each_among (λ p. IsAmong p c) c (λ p m. m))
