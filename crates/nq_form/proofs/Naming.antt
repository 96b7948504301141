-- What a run of constituents is.
use Rattle.std.proofs.Common.{◌≡◌, ℕ, ◌^◌, ◌<◌, ◌≤◌, Bool, true, false, List, [], ◌∷◌, length, refl, ap, sym, ◌∙◌, subst, arith, inl, inr, nat_eq, nat_lt, get_or, take, drop, ◌-◌}
use Rattle.std.specs.Prelude.{IsTrue, not, ◌&&◌, ◌||◌, ◌⊎◌, nat_le, map}
use Rattle.std.specs.List.{list_all}
use Rattle.std.specs.Char.{digit_value}
use Rattle.std.specs.Str.Parse.{IsNumeral, AllDigits, digits_value}
use Rattle.std.proofs.lemmas.Str.Parse.{digit_from_value}
use Rattle.std.proofs.lemmas.Bool.{eqb-true}
use Rattle.std.proofs.lemmas.Bool.Decides.{nat_tests}
use Rattle.std.proofs.lemmas.Grind.{common_steps}
use Rattle.nq_form.specs.Form.{Form, symbol, numeral}
use Rattle.nq_form.specs.Bytes.{is_constituent, is_digit, is_sign, is_between, upper}
use Rattle.nq_form.specs.Token.{bars_front, begins_symbol, IsSymbol, Writes, IsNumber, plain, plus, minus, minus_zero, Token, name, number, WritesWide, IsWide, wide, signed_wide, IsBad}
use Rattle.nq_form.specs.Kinds.{Kind, form, single_dot, too_wide, no_token, is_dot, IsSigned, all_digits, is_numeral, numeral_or, digits_or, signed_or, is_symbol, symbol_if, dot_or, kind_of}
use Rattle.nq_form.proofs.Spelling.{not_both, and_front, and_back}
use Rattle.nq_form.proofs.Reaching.{IsToken}
use Rattle.nq_form.proofs.Faulting.{IsRun}

both : (a b : Bool) → IsTrue a → IsTrue b → IsTrue (a && b)
both true b g h = h
both false b g h = g

or_left : (a b : Bool) → IsTrue a → IsTrue (a || b)
or_left true b h = refl
or_left false b h = cc

or_right : (a b : Bool) → IsTrue b → IsTrue (a || b)
or_right true b h = refl
or_right false b h = h

all-true : (ds : List ℕ) → AllDigits 10 ds → IsTrue (all_digits ds)
all-true [] h = refl
all-true (c ∷ cs) h = let low : nat_lt (digit_value c) 10 ≡ true = lower c h.0 in both (nat_lt (digit_value c) 10) (all_digits cs) low (all-true cs h.1)
  where
    lower : (c : ℕ) → digit_value c < 10 → nat_lt (digit_value c) 10 ≡ true
    lower c h = below (digit_value c) h
      where
        below : (n : ℕ) → n < 10 → nat_lt n 10 ≡ true
        below n h = grind (arith, nat_tests)

all-back : (ds : List ℕ) → IsTrue (all_digits ds) → AllDigits 10 ds
all-back [] h = tt
all-back (c ∷ cs) h = (above (digit_value c) (and_front _ _ h), all-back cs (and_back _ _ h))
  where
    above : (n : ℕ) → nat_lt n 10 ≡ true → n < 10
    above n h = grind (arith, nat_tests)

numeral-true : (ds : List ℕ) → IsNumeral 10 ds → IsTrue (is_numeral ds)
numeral-true [] h = absurd (omega (arith, h.0))
numeral-true (c ∷ cs) h = all-true (c ∷ cs) h.1

numeral-back : (ds : List ℕ) → IsTrue (is_numeral ds) → IsNumeral 10 ds
numeral-back [] h = cc
numeral-back (c ∷ cs) h = (omega arith, all-back (c ∷ cs) h)

digit-constituent : (c : ℕ) → digit_value c < 10 → IsTrue (is_constituent c)
digit-constituent c h =
    let range = digit_from_value c h in
    let low : nat_le 45 c ≡ true = at_least c range.0 in
    let high : nat_le c 58 ≡ true = at_most c range.1 in
    or_left _ (is_between 125 126 c) (or_left _ (is_between 97 123 c) (or_left _ (is_between 93 95 c) (or_left _ (is_between 60 91 c)
    (or_right (nat_eq c 33 || is_between 36 38 c || is_between 42 43 c) (is_between 45 58 c) (both (nat_le 45 c) (nat_le c 58) low high)))))
  where
    at_least : (c : ℕ) → 48 ≤ c → nat_le 45 c ≡ true
    at_least c h = grind (arith, nat_tests)

    at_most : (c : ℕ) → c ≤ 57 → nat_le c 58 ≡ true
    at_most c h = grind (arith, nat_tests)

digits-constituents : (ds : List ℕ) → AllDigits 10 ds → IsTrue (list_all is_constituent ds)
digits-constituents [] h = refl
digits-constituents (c ∷ cs) h = both (is_constituent c) _ (digit-constituent c h.0) (digits-constituents cs h.1)

pub digit-is : (c : ℕ) → digit_value c < 10 → IsTrue (is_digit c)
digit-is c h = let range = digit_from_value c h in both (nat_le 48 c) (nat_le c 57) (at_least c range.0) (at_most c range.1)
  where
    at_least : (c : ℕ) → 48 ≤ c → nat_le 48 c ≡ true
    at_least c h = grind (arith, nat_tests)

    at_most : (c : ℕ) → c ≤ 57 → nat_le c 57 ≡ true
    at_most c h = grind (arith, nat_tests)

-- no symbol begins with a digit, nor with a sign and a digit
front-no_digit : (b : ℕ) (ds : List ℕ) → IsTrue (begins_symbol (b ∷ ds)) → digit_value b < 10 → ⊥
front-no_digit b [] h k = not_both (bars_front b) (or_left _ (nat_eq b 58) (or_left _ (nat_eq b 46) (digit-is b k))) h
front-no_digit b (c ∷ ds) h k = not_both (bars_front b) (or_left _ (nat_eq b 58) (or_left _ (nat_eq b 46) (digit-is b k))) (and_front _ _ h)

front-no_dot : (b : ℕ) → IsTrue (begins_symbol (b ∷ [])) → IsTrue (nat_eq b 46) → ⊥
front-no_dot b h k = not_both (bars_front b) (or_left _ (nat_eq b 58) (or_right (is_digit b) (nat_eq b 46) k)) h

false_if : (b : Bool) → (IsTrue b → ⊥) → b ≡ false
false_if true h = absurd (h refl)
false_if false h = refl

symbol-no_digits : (b : ℕ) (ds : List ℕ) → IsTrue (begins_symbol (b ∷ ds)) → is_numeral (b ∷ ds) ≡ false
symbol-no_digits b ds h = false_if (is_numeral (b ∷ ds)) (λ k. front-no_digit b ds h (numeral-back (b ∷ ds) k).1.0)

symbol-no_sign : (b : ℕ) (ds : List ℕ) → IsTrue (begins_symbol (b ∷ ds)) → IsTrue (is_sign b) → is_numeral ds ≡ false
symbol-no_sign b [] h k = refl
symbol-no_sign b (c ∷ ds) h k =
    false_if (is_numeral (c ∷ ds)) (λ n. not_both (is_sign b && is_digit c) (both (is_sign b) (is_digit c) k (digit-is c (numeral-back (c ∷ ds) n).1.0)) (and_back _ _ h))

no_dot-numeral : (b : ℕ) (ds : List ℕ) → IsNumeral 10 (b ∷ ds) → is_dot (b ∷ ds) ≡ false
no_dot-numeral b [] h = false_if (nat_eq b 46) (λ e. let same : b ≡ 46 = eqb-true b 46 e in let low : digit_value 46 < 10 = subst (λ (z : ℕ). digit_value z < 10) same h.1.0 in omega (arith, low))
no_dot-numeral b (c ∷ ds) h = refl

no_dot-symbol : (b : ℕ) (ds : List ℕ) → IsTrue (begins_symbol (b ∷ ds)) → is_dot (b ∷ ds) ≡ false
no_dot-symbol b [] h = false_if (nat_eq b 46) (λ e. front-no_dot b h e)
no_dot-symbol b (c ∷ ds) h = refl

signed-symbol : (p m : Bool) (ds : List ℕ) (k : Kind) → (IsTrue (p || m) → is_numeral ds ≡ false) → signed_or p m ds k ≡ k
signed-symbol true m ds k h = ap (λ (z : Bool). numeral_or z (nat_lt (digits_value 10 ds) (2 ^ 128)) false (digits_value 10 ds) k) (h refl)
signed-symbol false true ds k h = ap (λ (z : Bool). numeral_or z (nat_lt (digits_value 10 ds) (2 ^ 128)) (not (nat_eq (digits_value 10 ds) 0)) (digits_value 10 ds) k) (h refl)
signed-symbol false false ds k h = refl

short-true : (n : ℕ) → n ≤ 256 → nat_le n 256 ≡ true
short-true n h = grind (arith, nat_tests)

kind-symbol : (b : ℕ) (ds : List ℕ) → IsSymbol (b ∷ ds) → kind_of (b ∷ ds) ≡ form (symbol (map upper (b ∷ ds)))
kind-symbol b ds s =
    let rest : Kind = symbol_if (is_symbol (b ∷ ds)) (b ∷ ds) in
    let all : is_symbol (b ∷ ds) ≡ true = both (list_all is_constituent (b ∷ ds)) _ s.constituents (both (begins_symbol (b ∷ ds)) (nat_le (length (b ∷ ds)) 256) s.front (short-true (length (b ∷ ds)) s.short)) in
    ap (λ (z : Bool). dot_or z (digits_or false (b ∷ ds) (signed_or (nat_eq b 43) (nat_eq b 45) ds rest))) (no_dot-symbol b ds s.front)
    ∙ ap (λ (z : Bool). numeral_or z (nat_lt (digits_value 10 (b ∷ ds)) (2 ^ 128)) false (digits_value 10 (b ∷ ds)) (signed_or (nat_eq b 43) (nat_eq b 45) ds rest)) (symbol-no_digits b ds s.front)
    ∙ signed-symbol (nat_eq b 43) (nat_eq b 45) ds rest (symbol-no_sign b ds s.front) ∙ ap (λ (z : Bool). symbol_if z (b ∷ ds)) all

narrow-true : (n : ℕ) → n < 2 ^ 128 → nat_lt n (2 ^ 128) ≡ true
narrow-true n h = grind (arith, nat_tests)

narrow-false : (n : ℕ) → 2 ^ 128 ≤ n → nat_lt n (2 ^ 128) ≡ false
narrow-false n h = grind (arith, nat_tests)

-- digits behind a plus or a minus sign or none
digits-narrow : (m : Bool) (ds : List ℕ) (n : ℕ) (k : Kind) → Writes ds n → digits_or m ds k ≡ form (numeral (m && not (nat_eq n 0)) n)
digits-narrow m ds n k w =
    ap (λ (z : Bool). numeral_or z (nat_lt (digits_value 10 ds) (2 ^ 128)) (m && not (nat_eq (digits_value 10 ds) 0)) (digits_value 10 ds) k) (numeral-true ds w.digits_only)
    ∙ ap (λ (z : ℕ). numeral_or true (nat_lt z (2 ^ 128)) (m && not (nat_eq z 0)) z k) w.value
    ∙ ap (λ (z : Bool). numeral_or true z (m && not (nat_eq n 0)) n k) (narrow-true n w.narrow)

digits-wide : (m : Bool) (ds : List ℕ) (k : Kind) → WritesWide ds → digits_or m ds k ≡ too_wide
digits-wide m ds k w =
    ap (λ (z : Bool). numeral_or z (nat_lt (digits_value 10 ds) (2 ^ 128)) (m && not (nat_eq (digits_value 10 ds) 0)) (digits_value 10 ds) k) (numeral-true ds w.0)
    ∙ ap (λ (z : Bool). numeral_or true z (m && not (nat_eq (digits_value 10 ds) 0)) (digits_value 10 ds) k) (narrow-false (digits_value 10 ds) w.1)

positive : (n : ℕ) → 0 < n → not (nat_eq n 0) ≡ true
positive n h = grind (arith, nat_tests)

unsigned_run : (b : ℕ) (ds : List ℕ) (k : Kind) → IsNumeral 10 (b ∷ ds) → ((other : Kind) → digits_or false (b ∷ ds) other ≡ k) → IsRun kind_of (b ∷ ds) k
unsigned_run b ds k n e = record {
  first = b;
  rest = ds;
  bytes = refl;
  constituents = digits-constituents (b ∷ ds) n.1;
  kind_is = ap (λ (z : Bool). dot_or z (digits_or false (b ∷ ds) (signed_or (nat_eq b 43) (nat_eq b 45) ds (symbol_if (is_symbol (b ∷ ds)) (b ∷ ds))))) (no_dot-numeral b ds n) ∙ e _;
}

plus_run : (ds : List ℕ) (k : Kind) → IsNumeral 10 ds → ((other : Kind) → digits_or false ds other ≡ k) → IsRun kind_of (43 ∷ ds) k
plus_run [] k n e = absurd (omega (arith, n.0))
plus_run (c ∷ ds) k n e = record { first = 43; rest = c ∷ ds; bytes = refl; constituents = digits-constituents (c ∷ ds) n.1; kind_is = e _ }

minus_run : (ds : List ℕ) (k : Kind) → IsNumeral 10 ds → ((other : Kind) → digits_or true ds other ≡ k) → IsRun kind_of (45 ∷ ds) k
minus_run [] k n e = absurd (omega (arith, n.0))
minus_run (c ∷ ds) k n e = record { first = 45; rest = c ∷ ds; bytes = refl; constituents = digits-constituents (c ∷ ds) n.1; kind_is = e _ }

unsigned_run_of : (ds : List ℕ) (k : Kind) → IsNumeral 10 ds → ((other : Kind) → digits_or false ds other ≡ k) → IsRun kind_of ds k
unsigned_run_of [] k n e = absurd (omega (arith, n.0))
unsigned_run_of (b ∷ ds) k n e = unsigned_run b ds k n e

number_run : (w : List ℕ) (negative : Bool) (n : ℕ) → IsNumber w negative n → IsRun kind_of w (form (numeral negative n))
number_run w negative n (plain v) = unsigned_run_of w _ v.digits_only (λ k. digits-narrow false w n k v)
number_run w negative n (plus {ds = ds} v) = plus_run ds _ v.digits_only (λ k. digits-narrow false ds n k v)
number_run w negative n (minus {ds = ds} v h) = minus_run ds _ v.digits_only (λ k. digits-narrow true ds n k v ∙ ap (λ (z : Bool). form (numeral z n)) (positive n h))
number_run w negative n (minus_zero {ds = ds} v) = minus_run ds _ v.digits_only (λ k. digits-narrow true ds 0 k v)

pub named : (w : List ℕ) (f : Form) → Token w f → IsToken kind_of w f
named [] f (name s) = absurd (cc (s.front))
named (b ∷ ds) f (name s) = record { first = b; rest = ds; bytes = refl; constituents = s.constituents; kind = kind-symbol b ds s }
named w f (number {negative = negative} {n = n} i) =
    let r = number_run w negative n i in record { first = r.first; rest = r.rest; bytes = r.bytes; constituents = r.constituents; kind = r.kind_is }

pub dot_kind : kind_of (46 ∷ []) ≡ single_dot
dot_kind = refl

signed_wide_run : (p m : Bool) (b : ℕ) (ds : List ℕ) → nat_eq b 43 ≡ p → nat_eq b 45 ≡ m → IsTrue (p || m) → WritesWide ds → IsRun kind_of (b ∷ ds) too_wide
signed_wide_run true m b ds e f h w = let same : b ≡ 43 = eqb-true b 43 e in subst (λ (z : ℕ). IsRun kind_of (z ∷ ds) too_wide) (sym same) (plus_run ds too_wide w.0 (λ k. digits-wide false ds k w))
signed_wide_run false true b ds e f h w = let same : b ≡ 45 = eqb-true b 45 f in subst (λ (z : ℕ). IsRun kind_of (z ∷ ds) too_wide) (sym same) (minus_run ds too_wide w.0 (λ k. digits-wide true ds k w))
signed_wide_run false false b ds e f h w = cc

pub wide_run : (w : List ℕ) → IsWide w → IsRun kind_of w too_wide
wide_run w (wide v) = unsigned_run_of w too_wide v.0 (λ k. digits-wide false w k v)
wide_run w (signed_wide {ds = ds} b h v) = signed_wide_run (nat_eq b 43) (nat_eq b 45) b ds refl refl h v

-- what the kind of a run of constituents says of it
pub data Sound (w : List ℕ) : Kind → Type 0 where
  a_form : {f : Form} → Token w f → Sound w (form f)
  a_dot : w ≡ 46 ∷ [] → Sound w single_dot
  a_wide : IsWide w → Sound w too_wide
  none : Sound w no_token

dot-sound : (w : List ℕ) (x : Bool) (k : Kind) → (IsTrue x → w ≡ 46 ∷ []) → Sound w k → Sound w (dot_or x k)
dot-sound w true k e s = a_dot (e refl)
dot-sound w false k e s = s

numeral-sound : (w ds : List ℕ) (x y m : Bool) (n : ℕ) (k : Kind) → (IsTrue x → IsNumeral 10 ds) → nat_lt n (2 ^ 128) ≡ y → n ≡ digits_value 10 ds → (Writes ds n → Token w (numeral m n)) → (WritesWide ds → IsWide w) → Sound w k
    → Sound w (numeral_or x y m n k)
numeral-sound w ds false y m n k h e v f g s = s
numeral-sound w ds true true m n k h e v f g s = a_form (f (record { digits_only = h refl; value = sym v; narrow = below n e }))
  where
    below : (n : ℕ) → nat_lt n (2 ^ 128) ≡ true → n < 2 ^ 128
    below n h = grind (arith, nat_tests)
numeral-sound w ds true false m n k h e v f g s = a_wide (g (h refl, subst (λ (z : ℕ). 2 ^ 128 ≤ z) v (above n e)))
  where
    above : (n : ℕ) → nat_lt n (2 ^ 128) ≡ false → 2 ^ 128 ≤ n
    above n h = grind (arith, nat_tests)

minus-token : (ds : List ℕ) (n : ℕ) → Writes ds n → Token (45 ∷ ds) (numeral (not (nat_eq n 0)) n)
minus-token ds n v = at_zero n (nat_eq n 0) refl v
  where
    not_zero : (n : ℕ) → nat_eq n 0 ≡ false → 0 < n
    not_zero n h = grind (arith, nat_tests)

    at_zero : (n : ℕ) (z : Bool) → nat_eq n 0 ≡ z → Writes ds n → Token (45 ∷ ds) (numeral (not z) n)
    at_zero n false e v = number (minus v (not_zero n e))
    at_zero n true e v =
        let same : n ≡ 0 = eqb-true n 0 e in
        let zero_read : Token (45 ∷ ds) (numeral false 0) = number (minus_zero (subst (λ (z : ℕ). Writes ds z) same v)) in
        subst (λ (z : ℕ). Token (45 ∷ ds) (numeral false z)) (sym same) zero_read

signed-sound : (b : ℕ) (p m : Bool) (ds : List ℕ) (k : Kind) → nat_eq b 43 ≡ p → nat_eq b 45 ≡ m → Sound (b ∷ ds) k → Sound (b ∷ ds) (signed_or p m ds k)
signed-sound b true m ds k e f s =
    let same : b ≡ 43 = eqb-true b 43 e in
    let at_plus : Sound (43 ∷ ds) k = subst (λ (z : ℕ). Sound (z ∷ ds) k) same s in
    subst (λ (z : ℕ). Sound (z ∷ ds) (digits_or false ds k)) (sym same)
    (numeral-sound (43 ∷ ds) ds (is_numeral ds) _ false (digits_value 10 ds) k (numeral-back ds) refl refl (λ v. number (plus v)) (λ v. signed_wide 43 refl v) at_plus)
signed-sound b false true ds k e f s =
    let same : b ≡ 45 = eqb-true b 45 f in
    let at_minus : Sound (45 ∷ ds) k = subst (λ (z : ℕ). Sound (z ∷ ds) k) same s in
    subst (λ (z : ℕ). Sound (z ∷ ds) (digits_or true ds k)) (sym same)
    (numeral-sound (45 ∷ ds) ds (is_numeral ds) _ (not (nat_eq (digits_value 10 ds) 0)) (digits_value 10 ds) k (numeral-back ds) refl refl (minus-token ds (digits_value 10 ds)) (λ v. signed_wide 45 refl v) at_minus)
signed-sound b false false ds k e f s = s

symbol-sound : (w : List ℕ) (x : Bool) → is_symbol w ≡ x → Sound w (symbol_if x w)
symbol-sound w false e = none
symbol-sound w true e =
    let front = and_back (list_all is_constituent w) _ e in
    a_form (name (record { constituents = and_front _ _ e; front = and_front _ _ front; short = at_most (length w) (and_back (begins_symbol w) _ front) }))
  where
    at_most : (n : ℕ) → nat_le n 256 ≡ true → n ≤ 256
    at_most n h = grind (arith, nat_tests)

pub is_dot-back : (w : List ℕ) → IsTrue (is_dot w) → w ≡ 46 ∷ []
is_dot-back [] h = cc
is_dot-back (b ∷ []) h = ap (λ (z : ℕ). z ∷ []) (eqb-true b 46 h)
is_dot-back (b ∷ c ∷ w) h = cc

pub kind-sound : (w : List ℕ) → Sound w (kind_of w)
kind-sound [] = none
kind-sound (b ∷ ds) =
    dot-sound (b ∷ ds) (is_dot (b ∷ ds)) _ (is_dot-back (b ∷ ds))
    (numeral-sound (b ∷ ds) (b ∷ ds) (is_numeral (b ∷ ds)) _ false (digits_value 10 (b ∷ ds)) _ (numeral-back (b ∷ ds)) refl refl (λ v. number (plain v)) (λ v. wide v)
    (signed-sound b (nat_eq b 43) (nat_eq b 45) ds _ refl refl (symbol-sound (b ∷ ds) (is_symbol (b ∷ ds)) refl)))

sound-bad : (w : List ℕ) (k : Kind) → IsBad w → Sound w k → k ≡ no_token
sound-bad w k i (a_form {f = f} t) = absurd (i.no_form f t)
sound-bad w k i (a_dot e) = absurd (i.no_dot e)
sound-bad w k i (a_wide v) = absurd (i.not_wide v)
sound-bad w k i none = refl

pub bad_run : (w : List ℕ) → IsBad w → IsRun kind_of w no_token
bad_run [] i = absurd (omega (arith, i.some))
bad_run (b ∷ ds) i = record { first = b; rest = ds; bytes = refl; constituents = i.constituents; kind_is = sound-bad (b ∷ ds) (kind_of (b ∷ ds)) i (kind-sound (b ∷ ds)) }

pub symbol-of : (w : List ℕ) → IsTrue (list_all is_constituent w) → IsTrue (begins_symbol w && nat_le (length w) 256) → IsSymbol w
symbol-of w c h = record { constituents = c; front = and_front _ _ h; short = at_most (length w) (and_back (begins_symbol w) _ h) }
  where
    at_most : (n : ℕ) → nat_le n 256 ≡ true → n ≤ 256
    at_most n h = grind (arith, nat_tests)

number-signed : (w : List ℕ) (negative : Bool) (n : ℕ) → IsNumber w negative n → IsNumeral 10 w ⊎ IsSigned w
number-signed w negative n (plain v) = inl v.digits_only
number-signed w negative n (plus v) = inr (refl, v.digits_only)
number-signed w negative n (minus v h) = inr (refl, v.digits_only)
number-signed w negative n (minus_zero v) = inr (refl, v.digits_only)

wide-signed : (w : List ℕ) → IsWide w → IsNumeral 10 w ⊎ IsSigned w
wide-signed w (wide v) = inl v.0
wide-signed w (signed_wide b h v) = inr (h, v.0)

-- a run of constituents that is no numeral, has not the shape of a symbol and is no dot
pub bad-of : (w : List ℕ) → IsTrue (list_all is_constituent w) → 0 < length w → (IsNumeral 10 w → ⊥) → (IsSigned w → ⊥) → (begins_symbol w && nat_le (length w) 256) ≡ false → is_dot w ≡ false → IsBad w
bad-of w c h u v s d = record {
  constituents = c;
  some = h;
  no_form = no_form;
  not_wide = λ i. elim (wide-signed w i) [ inl n ↦ u n | inr n ↦ v n ];
  no_dot = λ e. let yes : is_dot w ≡ true = ap is_dot e in let same : true ≡ false = sym yes ∙ d in cc;
}
  where
    no_form : (f : Form) → Token w f → ⊥
    no_form f (name i) =
        let yes : (begins_symbol w && nat_le (length w) 256) ≡ true = both (begins_symbol w) (nat_le (length w) 256) i.front (short-true (length w) i.short) in
        let same : true ≡ false = sym yes ∙ s in
        cc
    no_form f (number {negative = negative} {n = n} i) = elim (number-signed w negative n i) [ inl n ↦ u n | inr n ↦ v n ]

pub signed-number : (b : ℕ) (ds : List ℕ) (n : ℕ) → IsTrue (is_sign b) → Writes ds n → IsNumber (b ∷ ds) (nat_eq b 45 && not (nat_eq n 0)) n
signed-number b ds n h v = at_sign (nat_eq b 43) (nat_eq b 45) refl refl h
  where
    not_zero : (n : ℕ) → nat_eq n 0 ≡ false → 0 < n
    not_zero n h = grind (arith, nat_tests)

    at_zero : (n : ℕ) (z : Bool) → nat_eq n 0 ≡ z → Writes ds n → IsNumber (45 ∷ ds) (not z) n
    at_zero n false e v = minus v (not_zero n e)
    at_zero n true e v =
        let same : n ≡ 0 = eqb-true n 0 e in
        let zero_read : IsNumber (45 ∷ ds) false 0 = minus_zero (subst (λ (z : ℕ). Writes ds z) same v) in
        subst (λ (z : ℕ). IsNumber (45 ∷ ds) false z) (sym same) zero_read

    at_sign : (p m : Bool) → nat_eq b 43 ≡ p → nat_eq b 45 ≡ m → IsTrue (p || m) → IsNumber (b ∷ ds) (nat_eq b 45 && not (nat_eq n 0)) n
    at_sign p true e f h =
        let same : b ≡ 45 = eqb-true b 45 f in
        subst (λ (z : ℕ). IsNumber (z ∷ ds) (nat_eq z 45 && not (nat_eq n 0)) n) (sym same) (at_zero n (nat_eq n 0) refl v)
    at_sign true false e f h =
        let same : b ≡ 43 = eqb-true b 43 e in
        subst (λ (z : ℕ). IsNumber (z ∷ ds) (nat_eq z 45 && not (nat_eq n 0)) n) (sym same) (plus v)
    at_sign false false e f h = cc

take-whole : (w : List ℕ) → take (length w) w ≡ w
take-whole w = grind (arith, common_steps)

-- a run is its first byte and the rest
pub first-and-rest : (w : List ℕ) → 0 < length w → w ≡ get_or w 0 0 ∷ take (length w - 1) (drop 1 w)
first-and-rest [] h = absurd (omega (arith, h))
first-and-rest (b ∷ w) h =
    let count : length w ≡ length (b ∷ w) - 1 = omega arith in
    ap (λ (z : List ℕ). b ∷ z) (sym (take-whole w)) ∙ ap (λ (n : ℕ). b ∷ take n w) count
