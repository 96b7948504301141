-- The number that digits write, digit by digit.
use Rattle.std.proofs.Common.{◌≡◌, ℕ, zero, suc, true, false, [], ◌∷◌, ◌+◌, ◌-◌, ◌*◌, ◌^◌, ◌<◌, ◌≤◌, List, length, take, get_or, ap, sym, ◌∙◌, subst, arith}
use Rattle.std.specs.Prelude.{Option, None, Some, IsTrue, nat_le}
use Rattle.std.specs.Char.{digit_value}
use Rattle.std.specs.Str.Parse.{IsNumeral, AllDigits, digits_value}
use Rattle.std.proofs.lemmas.Str.{digit_value_digit}
use Rattle.std.proofs.lemmas.Int.Digits.{digits_value_more}
use Rattle.std.proofs.lemmas.Bool.Decides.{nat_tests}
use Rattle.nq_form.specs.Bytes.{is_digit}
use Rattle.nq_sexp.specs.Kind.{Grown}
use Rattle.nq_form.proofs.Spelling.{and_front, and_back}
use Rattle.nq_form.proofs.Naming.{digit-is}

-- the number of the digits so far, or none where it is too wide
abbrev pub Counted : Option ℕ → List ℕ → Type 0
Counted None ds = 2 ^ 128 ≤ digits_value 10 ds
Counted (Some n) ds = (digits_value 10 ds ≡ n) × (n < 2 ^ 128)

pub digit-range : (c : ℕ) → IsTrue (is_digit c) → (48 ≤ c) × (c ≤ 57)
digit-range c h = (at_least c (and_front _ _ h), at_most c (and_back (nat_le 48 c) _ h))
  where
    at_least : (c : ℕ) → nat_le 48 c ≡ true → 48 ≤ c
    at_least c h = grind (arith, nat_tests)

    at_most : (c : ℕ) → nat_le c 57 ≡ true → c ≤ 57
    at_most c h = grind (arith, nat_tests)

pub digit-read : (c : ℕ) → 48 ≤ c → c ≤ 57 → digit_value c ≡ c - 48
digit-read c h k = let e = digit_value_digit c (h, k) in omega (arith, e)

pub counted-wide : (bs : List ℕ) (i : ℕ) → i < length bs → Counted None (take i bs) → Counted None (take (i + 1) bs)
counted-wide bs i h w = let e = digits_value_more 10 bs i h in subst (λ (z : ℕ). 2 ^ 128 ≤ z) (sym e) (omega (arith, w))

pub counted-more : (bs : List ℕ) (i : ℕ) (number next : Option ℕ) (byte digit : ℕ) → i < length bs → byte ≡ get_or bs i 0 → IsTrue (is_digit byte) → digit ≡ byte - 48 → Counted number (take i bs)
    → Grown number digit next → Counted next (take (i + 1) bs)
counted-more bs i None None byte digit h b k d c g = counted-wide bs i h c
counted-more bs i None (Some m) byte digit h b k d c g = absurd g
counted-more bs i (Some n) next byte digit h b k d c g =
    let e = digits_value_more 10 bs i h in
    let range = digit-range byte k in
    let read : digit_value (get_or bs i 0) ≡ digit = ap digit_value (sym b) ∙ digit-read byte range.0 range.1 ∙ sym d in
    let value : digits_value 10 (take (i + 1) bs) ≡ n * 10 + digit = e ∙ ap (λ (z : ℕ). z * 10 + digit_value (get_or bs i 0)) c.0 ∙ ap (λ (z : ℕ). n * 10 + z) read in
    at_next next value g
  where
    at_next : (next : Option ℕ) → digits_value 10 (take (i + 1) bs) ≡ n * 10 + digit → Grown (Some n) digit next → Counted next (take (i + 1) bs)
    at_next None v g = subst (λ (z : ℕ). 2 ^ 128 ≤ z) (sym v) g
    at_next (Some m) v g = (v ∙ sym g.0, g.1)

pub digit-below : (c : ℕ) → IsTrue (is_digit c) → digit_value c < 10
digit-below c h = let range = digit-range c h in let e = digit-read c range.0 range.1 in omega (arith, e, range.1)

-- a byte that is no digit stands in no numeral
pub no_numeral : (bs : List ℕ) (i : ℕ) → i < length bs → is_digit (get_or bs i 0) ≡ false → IsNumeral 10 bs → ⊥
no_numeral bs i h k n = not_in bs i h k n.1
  where
    not_in : (bs : List ℕ) (i : ℕ) → i < length bs → is_digit (get_or bs i 0) ≡ false → AllDigits 10 bs → ⊥
    not_in [] i h k a = omega (arith, h)
    not_in (c ∷ cs) zero h k a = let yes : is_digit c ≡ true = digit-is c a.0 in let same : true ≡ false = sym yes ∙ k in cc
    not_in (c ∷ cs) (suc i) h k a = not_in cs i (omega (arith, h)) k a.1
