-- The values of functions of numbers on numerals, over laws that logs prove.
use Rattle.std.proofs.Common.{◌≡◌, ℕ, zero, suc, ◌+◌, ◌*◌, ◌-◌, ◌/◌, ◌%◌, ◌<◌, ◌==◌, nat_lt, Bool, true, false, if◌then◌else◌, [], ◌∷◌, refl, sym, subst, arith}
use Rattle.std.proofs.lemmas.Nat.{div-add-mod'}
use Rattle.std.proofs.Math.Nat.{suc-mul}
use Rattle.std.proofs.lemmas.Bool.Decides.{nat_tests}
use Rattle.nq_logic.specs.Words.{call1, call2, equal_term, zero_term, add1_term, numeral}
use Rattle.nq_logic.specs.Terms.{IsTerm}
use Rattle.nq_logic.specs.Ground.{symbols_of}
use Rattle.nq_logic.specs.Formulas.{clause}
use Rattle.nq_logic.specs.Histories.{History}
use Rattle.nq_logic.specs.Derivations.{Derivable}
use Rattle.nq_logic.proofs.Symbols.{zero_symbol, add1_symbol, true_symbol, false_symbol}
use Rattle.nq_proof.specs.Values.{truth}
use Rattle.nq_laws.proofs.Less.{nothing_less_than_zero_at}
use Rattle.nq_laws.proofs.LessChains.{zero_less_than_add1_at, less_step_at}
use Rattle.nq_laws.proofs.PlusOrder.{sum_of_zero_and_number_at, sum_step_at}
use Rattle.nq_laws.proofs.Quotients.{difference_from_zero_value_at, difference_with_zero_value_at, difference_step_at, quotient_by_zero_at, quotient_of_less_at, quotient_step_at, remainder_by_zero_at, remainder_of_less_at, remainder_step_at}
use Rattle.nq_laws.proofs.Times.{product_of_zero_at, product_step_at}
use Rattle.nq_laws.proofs.Zero.{zero_is_number_at, add1_is_number_at}

-- comparisons of numbers
nothing_less : (m : ℕ) → nat_lt m zero ≡ false
nothing_less m = grind (arith, nat_tests)

zero_less : (n : ℕ) → nat_lt zero (suc n) ≡ true
zero_less n = grind (arith, nat_tests)

less_both : (m n : ℕ) → nat_lt (suc m) (suc n) ≡ nat_lt m n
less_both m n = grind (arith, nat_tests)

is_less : (m n : ℕ) → m < n → nat_lt m n ≡ true
is_less m n l = grind (arith, nat_tests)

is_not_less : (m k n : ℕ) → m ≡ k + n → nat_lt m k ≡ false
is_not_less m k n e = grind (arith, nat_tests)

pub no_zero : (k : ℕ) → suc k == 0 ≡ false
no_zero k = grind (arith, nat_tests)

at_positive : (k x y : ℕ) → (if suc k == 0 then y else x) ≡ x
at_positive k x y = subst (λ b. (if b then y else x) ≡ x) (sym (no_zero k)) refl

remainder_is_less : (m k : ℕ) → m % suc k < suc k
remainder_is_less m k = omega arith

module _ (h : History) where
  pub numeral_over : (n : ℕ) → IsTerm (symbols_of h) (numeral n)
  unfolding numeral
  numeral_over zero = zero_symbol h
  numeral_over (suc n) = (add1_symbol h, numeral_over n)

  pub truth_over : (b : Bool) → IsTerm (symbols_of h) (truth b)
  truth_over true = true_symbol h
  truth_over false = false_symbol h

  pub number : (n : ℕ) → Derivable h (clause (call1 "NUMBERP" (numeral n) ∷ []))
  unfolding numeral
  number zero = zero_is_number_at h
  number (suc n) = add1_is_number_at h (numeral n) (numeral_over n)

  pub sum : (m n : ℕ) → Derivable h (clause (equal_term (call2 "PLUS" (numeral m) (numeral n)) (numeral (m + n)) ∷ []))
  unfolding numeral
  sum zero n =
      let e : n ≡ zero + n = omega arith in
      subst (λ k. Derivable h (clause (equal_term (call2 "PLUS" zero_term (numeral n)) (numeral k) ∷ []))) e (sum_of_zero_and_number_at h (numeral n) (numeral_over n) (number n))
  sum (suc m) n =
      let e : suc (m + n) ≡ suc m + n = omega arith in
      subst (λ k. Derivable h (clause (equal_term (call2 "PLUS" (add1_term (numeral m)) (numeral n)) (numeral k) ∷ []))) e
      (sum_step_at h (numeral m) (numeral n) (numeral (m + n)) (numeral_over m) (numeral_over n) (numeral_over (m + n)) (number m) (sum m n))

  pub product : (m n : ℕ) → Derivable h (clause (equal_term (call2 "TIMES" (numeral m) (numeral n)) (numeral (m * n)) ∷ []))
  unfolding numeral
  product zero n =
      let e : 0 ≡ zero * n = omega arith in
      subst (λ k. Derivable h (clause (equal_term (call2 "TIMES" zero_term (numeral n)) (numeral k) ∷ []))) e (product_of_zero_at h (numeral n) (numeral_over n))
  product (suc m) n =
      let e : n + m * n ≡ suc m * n = omega (arith, suc-mul m n) in
      subst (λ k. Derivable h (clause (equal_term (call2 "TIMES" (add1_term (numeral m)) (numeral n)) (numeral k) ∷ []))) e
      (product_step_at h (numeral m) (numeral n) (numeral (m * n)) (numeral (n + m * n)) (numeral_over m) (numeral_over n) (numeral_over (m * n)) (numeral_over (n + m * n)) (number m) (product m n) (sum n (m * n)))

  pub less : (m n : ℕ) → Derivable h (clause (equal_term (call2 "LESSP" (numeral m) (numeral n)) (truth (nat_lt m n)) ∷ []))
  unfolding numeral
  less m zero =
      subst (λ b. Derivable h (clause (equal_term (call2 "LESSP" (numeral m) zero_term) (truth b) ∷ []))) (sym (nothing_less m)) (nothing_less_than_zero_at h (numeral m) (numeral_over m))
  less zero (suc n) =
      subst (λ b. Derivable h (clause (equal_term (call2 "LESSP" zero_term (add1_term (numeral n))) (truth b) ∷ []))) (sym (zero_less n)) (zero_less_than_add1_at h (numeral n) (numeral_over n))
  less (suc m) (suc n) =
      subst (λ b. Derivable h (clause (equal_term (call2 "LESSP" (add1_term (numeral m)) (add1_term (numeral n))) (truth b) ∷ []))) (sym (less_both m n))
      (less_step_at h (numeral m) (numeral n) (truth (nat_lt m n)) (numeral_over m) (numeral_over n) (truth_over (nat_lt m n)) (number m) (number n) (less m n))

  pub difference : (m n : ℕ) → Derivable h (clause (equal_term (call2 "DIFFERENCE" (numeral m) (numeral n)) (numeral (m - n)) ∷ []))
  unfolding numeral
  difference zero n =
      let e : 0 ≡ zero - n = omega arith in
      subst (λ k. Derivable h (clause (equal_term (call2 "DIFFERENCE" zero_term (numeral n)) (numeral k) ∷ []))) e (difference_from_zero_value_at h (numeral n) (numeral_over n))
  difference (suc m) zero =
      let e : suc m ≡ suc m - zero = omega arith in
      subst (λ k. Derivable h (clause (equal_term (call2 "DIFFERENCE" (add1_term (numeral m)) zero_term) (numeral k) ∷ []))) e (difference_with_zero_value_at h (numeral m) (numeral_over m))
  difference (suc m) (suc n) =
      let e : m - n ≡ suc m - suc n = omega arith in
      subst (λ k. Derivable h (clause (equal_term (call2 "DIFFERENCE" (add1_term (numeral m)) (add1_term (numeral n))) (numeral k) ∷ []))) e
      (difference_step_at h (numeral m) (numeral n) (numeral (m - n)) (numeral_over m) (numeral_over n) (numeral_over (m - n)) (number m) (number n) (difference m n))

  abbrev HasQuotient : ℕ → ℕ → ℕ → Type 0
  HasQuotient m k q = Derivable h (clause (equal_term (call2 "QUOTIENT" (numeral m) (add1_term (numeral k))) (numeral q) ∷ []))

  abbrev HasRemainder : ℕ → ℕ → ℕ → Type 0
  HasRemainder m k r = Derivable h (clause (equal_term (call2 "REMAINDER" (numeral m) (add1_term (numeral k))) (numeral r) ∷ []))

  less_by : (m k : ℕ) (b : Bool) → nat_lt m (suc k) ≡ b → Derivable h (clause (equal_term (call2 "LESSP" (numeral m) (add1_term (numeral k))) (truth b) ∷ []))
  unfolding numeral
  less_by m k b e = subst (λ c. Derivable h (clause (equal_term (call2 "LESSP" (numeral m) (add1_term (numeral k))) (truth c) ∷ []))) e (less m (suc k))

  difference_by : (m k n : ℕ) → m - suc k ≡ n → Derivable h (clause (equal_term (call2 "DIFFERENCE" (numeral m) (add1_term (numeral k))) (numeral n) ∷ []))
  unfolding numeral
  difference_by m k n e = subst (λ c. Derivable h (clause (equal_term (call2 "DIFFERENCE" (numeral m) (add1_term (numeral k))) (numeral c) ∷ []))) e (difference m (suc k))

  -- m is r, which is less than k + 1, with k + 1 added q times
  quotient_steps : (q k r m : ℕ) → r < suc k → m ≡ q * suc k + r → HasQuotient m k q
  unfolding numeral
  quotient_steps zero k r m l e =
      let small : m < suc k = omega arith in
      quotient_of_less_at h (numeral k) (numeral m) (numeral_over k) (numeral_over m) (less_by m k true (is_less m (suc k) small))
  quotient_steps (suc q) k r m l e =
      let n = q * suc k + r in
      let more : m ≡ suc k + n = omega (arith, suc-mul q (suc k)) in
      let left : m - suc k ≡ n = omega (arith, more) in
      quotient_step_at h (numeral m) (numeral k) (numeral n) (numeral q) (numeral_over m) (numeral_over k) (numeral_over n) (numeral_over q)
      (less_by m k false (is_not_less m (suc k) n more)) (difference_by m k n left) (quotient_steps q k r n l refl)

  remainder_steps : (q k r m : ℕ) → r < suc k → m ≡ q * suc k + r → HasRemainder m k r
  unfolding numeral
  remainder_steps zero k r m l e =
      let small : m < suc k = omega arith in
      let same : m ≡ r = omega arith in
      subst (HasRemainder m k) same (remainder_of_less_at h (numeral k) (numeral m) (numeral_over k) (numeral_over m) (number m) (less_by m k true (is_less m (suc k) small)))
  remainder_steps (suc q) k r m l e =
      let n = q * suc k + r in
      let more : m ≡ suc k + n = omega (arith, suc-mul q (suc k)) in
      let left : m - suc k ≡ n = omega (arith, more) in
      remainder_step_at h (numeral m) (numeral k) (numeral n) (numeral r) (numeral_over m) (numeral_over k) (numeral_over n) (numeral_over r)
      (less_by m k false (is_not_less m (suc k) n more)) (difference_by m k n left) (remainder_steps q k r n l refl)

  -- what a quotient and a remainder are on numbers, where a quotient by 0 is 0 and a remainder by 0 the number
  pub quotient : (m n : ℕ) → Derivable h (clause (equal_term (call2 "QUOTIENT" (numeral m) (numeral n)) (numeral (if n == 0 then 0 else m / n)) ∷ []))
  unfolding numeral
  quotient m zero = quotient_by_zero_at h (numeral m) (numeral_over m)
  quotient m (suc k) =
      subst (λ q. Derivable h (clause (equal_term (call2 "QUOTIENT" (numeral m) (add1_term (numeral k))) (numeral q) ∷ []))) (sym (at_positive k (m / suc k) 0))
      (quotient_steps (m / suc k) k (m % suc k) m (remainder_is_less m k) (sym (div-add-mod' m (suc k))))

  pub remainder : (m n : ℕ) → Derivable h (clause (equal_term (call2 "REMAINDER" (numeral m) (numeral n)) (numeral (if n == 0 then m else m % n)) ∷ []))
  unfolding numeral
  remainder m zero = remainder_by_zero_at h (numeral m) (numeral_over m) (number m)
  remainder m (suc k) =
      subst (λ q. Derivable h (clause (equal_term (call2 "REMAINDER" (numeral m) (add1_term (numeral k))) (numeral q) ∷ []))) (sym (at_positive k (m % suc k) m))
      (remainder_steps (m / suc k) k (m % suc k) m (remainder_is_less m k) (sym (div-add-mod' m (suc k))))
