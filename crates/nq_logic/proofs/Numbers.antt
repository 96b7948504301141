-- The terms that have a number are the numerals below the limit.
use Rattle.std.proofs.Common.{◌≡◌, ℕ, zero, suc, ◌+◌, ◌<◌, Bool, true, false, ltb, Option, Some, None, List, refl, sym, ap, ap₂, ◌∙◌, arith, cond}
use Rattle.std.specs.Prelude.{if◌then◌else◌, bytes_eq, codes}
use Rattle.std.proofs.lemmas.Grind.{common_steps}
use Rattle.std.proofs.lemmas.Slice.Eq.{bytes_eq-Decides}
use Rattle.nq_logic.specs.Terms.{Term, Variable, Function, Applied}
use Rattle.nq_logic.specs.Words.{numeral}
use Rattle.nq_logic.specs.Numerals.{number_of, number_of_none, number_of_one, next_number, numeral_limit}
use Rattle.nq_logic.specs.Tests.{NumeralsHaveNumbers, NumbersAreOfNumerals}

next_below : (n limit : ℕ) → suc n < limit → (if ltb (n + 1) limit then Some (n + 1) else None) ≡ Some (suc n)
next_below n limit h = grind (arith, common_steps)

pub numerals_have_numbers_law : NumeralsHaveNumbers
unfolding number_of numeral
numerals_have_numbers_law zero h = refl
numerals_have_numbers_law (suc n) h =
    let before : number_of (numeral n) ≡ Some n = numerals_have_numbers_law n (omega arith) in rw before (next_below n numeral_limit h)

-- the next number comes from a number, and is below the limit
some_next : (n limit m : ℕ) → (if ltb (m + 1) limit then Some (m + 1) else None) ≡ Some n → n ≡ suc m
some_next n limit m h = grind (arith, common_steps)

next_is_below : (n limit m : ℕ) → (if ltb (m + 1) limit then Some (m + 1) else None) ≡ Some n → n < limit
next_is_below n limit m h = grind (arith, common_steps)

next_is : (n : ℕ) (o : Option ℕ) → next_number o ≡ Some n → (m : ℕ) × (o ≡ Some m) × (n ≡ suc m) × (n < numeral_limit)
next_is n None h = absurd (cc)
next_is n (Some m) h = (m, refl, some_next n numeral_limit m h, next_is_below n numeral_limit m h)

chosen : {X : Type 0} (b : Bool) (o : Option X) (x : X) → cond b o None ≡ Some x → (b ≡ true) × (o ≡ Some x)
chosen true o x h = (refl, h)
chosen false o x h = absurd (cc)

some_same : (m n : ℕ) → Some m ≡ Some n → n ≡ m
some_same m n h = cc

-- a term is the numeral of this number, which is below the limit
IsNumeral : Term → ℕ → Type 0
IsNumeral t n = (t ≡ numeral n) × (n < numeral_limit)

zero_call : (f : List ℕ) (n : ℕ) → number_of_none f ≡ Some n → IsNumeral (Function f) n
unfolding numeral IsNumeral
zero_call f n h =
    let is = chosen (bytes_eq f (codes "ZERO")) (Some 0) n h in
    let at : f ≡ codes "ZERO" = (bytes_eq-Decides f (codes "ZERO")).0 is.0 in
    rw (some_same 0 n is.1, at) (refl, omega arith)

add1_call : (f : List ℕ) (t : Term) (n : ℕ) → number_of_one f (number_of t) ≡ Some n → ((m : ℕ) → number_of t ≡ Some m → IsNumeral t m) → IsNumeral (Applied (Function f) t) n
unfolding numeral IsNumeral
add1_call f t n h before =
    let is = chosen (bytes_eq f (codes "ADD1")) (next_number (number_of t)) n h in
    let at : f ≡ codes "ADD1" = (bytes_eq-Decides f (codes "ADD1")).0 is.0 in
    let next = next_is n (number_of t) is.1 in
    let below = next.3 in
    let same : t ≡ numeral next.0 = (before next.0 next.1).0 in
    (ap₂ (λ g v. Applied (Function g) v) at same ∙ sym (ap numeral next.2), below)

pub numbers_are_of_numerals_law : NumbersAreOfNumerals
unfolding number_of IsNumeral
numbers_are_of_numerals_law (Variable x) n h = absurd (cc)
numbers_are_of_numerals_law (Function f) n h = zero_call f n h
numbers_are_of_numerals_law (Applied (Variable x) u) n h = absurd (cc)
numbers_are_of_numerals_law (Applied (Function f) u) n h = add1_call f u n h (λ m e. numbers_are_of_numerals_law u m e)
numbers_are_of_numerals_law (Applied (Applied s t) u) n h = absurd (cc)
