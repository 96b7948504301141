-- Numerals and the numbers of terms.
use Rattle.std.proofs.Common.{◌≡◌, ℕ, zero, suc, ◌+◌, nat_lt, List, Bool, true, false, if◌then◌else◌, refl, sym, ap, ap₂, subst, arith}
use Rattle.std.specs.Prelude.{Option, Some, None, bytes_eq, codes}
use Rattle.std.proofs.lemmas.Bool.Decides.{nat_tests}
use Rattle.nq_logic.specs.Terms.{Term, Variable, Function, Applied}
use Rattle.nq_logic.specs.Words.{numeral}
use Rattle.nq_logic.specs.Numerals.{numeral_limit, next_number, number_of_none, number_of_one, number_of, is_numeral}
use Rattle.nq_proof.proofs.Tests.{names_same, none_is_not_some, some_same}

below_next : (n limit : ℕ) → nat_lt (suc n) limit ≡ true → nat_lt n limit ≡ true
below_next n limit e = grind (arith, nat_tests)

next_below : (n limit : ℕ) → nat_lt (suc n) limit ≡ true → (if nat_lt (n + 1) limit then Some (n + 1) else None) ≡ Some (suc n)
next_below n limit e =
    let p : suc n ≡ n + 1 = omega arith in
    subst (λ m. (if nat_lt m limit then Some m else None) ≡ Some (suc n)) p
    (subst (λ b. (if b then Some (suc n) else None) ≡ Some (suc n)) (sym e) refl)

-- a number below the limit is that of its numeral
pub numeral_has_number : (n : ℕ) → nat_lt n numeral_limit ≡ true → number_of (numeral n) ≡ Some n
unfolding number_of numeral
numeral_has_number zero e = refl
numeral_has_number (suc n) e = subst (λ o. next_number o ≡ Some (suc n)) (sym (numeral_has_number n (below_next n numeral_limit e))) (next_below n numeral_limit e)

pub numeral_is_numeral : (n : ℕ) → nat_lt n numeral_limit ≡ true → is_numeral (numeral n) ≡ true
numeral_is_numeral n e = ap (λ o. elim o as (λ o. Bool) [ None ↦ false | Some m ↦ true ]) (numeral_has_number n e)

-- the term is the numeral of the number, which is below the limit
abbrev pub IsNumeralOf : ℕ → Term → Type 0
IsNumeralOf n t = (nat_lt n numeral_limit ≡ true) × (t ≡ numeral n)

none_is : (f : List ℕ) (n : ℕ) → number_of_none f ≡ Some n → IsNumeralOf n (Function f)
unfolding numeral
none_is f n e = by_name (bytes_eq f (codes "ZERO")) refl e
  where
    by_name : (b : Bool) → bytes_eq f (codes "ZERO") ≡ b → (if b then Some 0 else None) ≡ Some n → IsNumeralOf n (Function f)
    by_name true s g = subst (λ n. IsNumeralOf n (Function f)) (some_same 0 n g) (refl, ap Function (names_same f (codes "ZERO") s))
    by_name false s g = absurd (none_is_not_some n g)

one_is : (f : List ℕ) (u : Term) (o : Option ℕ) (n : ℕ) → ((m : ℕ) → o ≡ Some m → IsNumeralOf m u) → number_of_one f o ≡ Some n → IsNumeralOf n (Applied (Function f) u)
unfolding numeral
one_is f u o n inner e = by_name (bytes_eq f (codes "ADD1")) refl e
  where
    by_limit : (m : ℕ) (b : Bool) → nat_lt (m + 1) numeral_limit ≡ b → IsNumeralOf m u → f ≡ codes "ADD1" → (if b then Some (m + 1) else None) ≡ Some n → IsNumeralOf n (Applied (Function f) u)
    by_limit m true l i s g =
        let p : m + 1 ≡ suc m = omega arith in
        let below : nat_lt (suc m) numeral_limit ≡ true = subst (λ k. nat_lt k numeral_limit ≡ true) p l in
        let next : suc m ≡ n = subst (λ k. k ≡ n) p (some_same (m + 1) n g) in
        subst (λ n. IsNumeralOf n (Applied (Function f) u)) next (below, ap₂ Applied (ap Function s) i.1)
    by_limit m false l i s g = absurd (none_is_not_some n g)

    by_rest : (o : Option ℕ) → ((m : ℕ) → o ≡ Some m → IsNumeralOf m u) → f ≡ codes "ADD1" → next_number o ≡ Some n → IsNumeralOf n (Applied (Function f) u)
    by_rest None inner s g = absurd (none_is_not_some n g)
    by_rest (Some m) inner s g = by_limit m (nat_lt (m + 1) numeral_limit) refl (inner m refl) s g

    by_name : (b : Bool) → bytes_eq f (codes "ADD1") ≡ b → (if b then next_number o else None) ≡ Some n → IsNumeralOf n (Applied (Function f) u)
    by_name true s g = by_rest o inner (names_same f (codes "ADD1") s) g
    by_name false s g = absurd (none_is_not_some n g)

-- a term with a number is the number's numeral
pub number_is_numeral : (t : Term) (n : ℕ) → number_of t ≡ Some n → IsNumeralOf n t
unfolding number_of
number_is_numeral (Variable x) n e = absurd (none_is_not_some n e)
number_is_numeral (Function f) n e = none_is f n e
number_is_numeral (Applied (Variable x) u) n e = absurd (none_is_not_some n e)
number_is_numeral (Applied (Function f) u) n e = one_is f u (number_of u) n (λ m d. number_is_numeral u m d) e
number_is_numeral (Applied (Applied s t) u) n e = absurd (none_is_not_some n e)
