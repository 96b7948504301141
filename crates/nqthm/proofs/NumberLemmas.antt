-- A number is what `parse` gives, where it is in range.
use Rattle.std.proofs.Common.{◌≡◌, ◌<◌, ◌≤◌, ◌^◌, ℕ, Bool, List, Option, Some, None, true, false, refl, ap, arith, if◌then◌else◌}
use Rattle.std.specs.Str.Parse.{IsNumeral, digits_value, without_leading_plus}
use Rattle.clap.specs.ValueTests.{is_unsigned_in}
use Rattle.clap.specs.declared.builder.value_parser.ValueParser.TheVariants as vp
use Rattle.clap.proofs.ValueTestLemmas.{accepts-Accepts, Accepts-accepts}
use Rattle.nqthm.specs.Words.{number_in}

abbrev pub IsNumber : List ℕ → Type 0
IsNumber text = IsNumeral 10 (without_leading_plus text) × (digits_value 10 (without_leading_plus text) < 2 ^ 64)

pub number_in-number : (least most : ℕ) (text : List ℕ) (n : ℕ) → IsNumber text → n ≡ digits_value 10 (without_leading_plus text) → least ≤ n → n ≤ most
    → Some n ≡ number_in least most text
number_in-number least most text n h e low high =
    let lt = h.1 in
    let test : is_unsigned_in least most text ≡ true =
    Accepts-accepts false (vp.Unsigned least most) text (h.0, h.1, omega (arith, e, low), omega (arith, e, high)) in
    rw test (ap Some e)

pub number_in-other : (least most : ℕ) (text : List ℕ)
    → (IsNumber text → least ≤ digits_value 10 (without_leading_plus text) → digits_value 10 (without_leading_plus text) ≤ most → ⊥)
    → None ≡ number_in least most text
number_in-other least most text h = go (is_unsigned_in least most text)
    (λ e. let a = accepts-Accepts false (vp.Unsigned least most) text e in h (a.0, a.1) a.2 a.3)
  where
    go : (b : Bool) → (b ≡ true → ⊥) → ◌≡◌ {A = Option ℕ} None (if b then Some (digits_value 10 (without_leading_plus text)) else None)
    go true differs = absurd (differs refl)
    go false differs = refl
