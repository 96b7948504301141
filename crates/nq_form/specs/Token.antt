-- Tokens, which are longest runs of constituents: symbols and numerals.
use Rattle.std.specs.Prelude.{◌≡◌, ◌≢◌, ℕ, ◌^◌, ◌<◌, ◌≤◌, Bool, true, false, ◌&&◌, ◌||◌, not, IsTrue, nat_eq, List, [], ◌∷◌, length, map}
use Rattle.std.specs.List.{list_all}
use Rattle.std.specs.Str.Parse.{IsNumeral, digits_value}
use Rattle.nq_form.specs.Form.{Form, symbol, numeral}
use Rattle.nq_form.specs.Bytes.{is_constituent, is_digit, is_sign, upper}

-- a digit, a dot or a colon
abbrev pub bars_front : ℕ → Bool
bars_front b = is_digit b || nat_eq b 46 || nat_eq b 58

-- a symbol begins neither with a digit, a dot or a colon nor with a sign and a digit
abbrev pub begins_symbol : List ℕ → Bool
begins_symbol [] = false
begins_symbol (b ∷ []) = not (bars_front b)
begins_symbol (b ∷ c ∷ bs) = not (bars_front b) && not (is_sign b && is_digit c)

pub record IsSymbol (w : List ℕ) : Type 0 where
  pub constituents : IsTrue (list_all is_constituent w)
  pub front : IsTrue (begins_symbol w)
  pub short : length w ≤ 256

-- digits that write a number below 2^128
pub record Writes (digits : List ℕ) (n : ℕ) : Type 0 where
  pub digits_only : IsNumeral 10 digits
  pub value : digits_value 10 digits ≡ n
  pub narrow : n < 2 ^ 128

-- a numeral with its sign and its magnitude
pub data IsNumber : List ℕ → Bool → ℕ → Type 0 where
  plain : {ds : List ℕ} {n : ℕ} → Writes ds n → IsNumber ds false n
  plus : {ds : List ℕ} {n : ℕ} → Writes ds n → IsNumber (43 ∷ ds) false n
  minus : {ds : List ℕ} {n : ℕ} → Writes ds n → 0 < n → IsNumber (45 ∷ ds) true n
  minus_zero : {ds : List ℕ} → Writes ds 0 → IsNumber (45 ∷ ds) false 0

-- the form that a token is
pub data Token : List ℕ → Form → Type 0 where
  name : {w : List ℕ} → IsSymbol w → Token w (symbol (map upper w))
  number : {w : List ℕ} {negative : Bool} {n : ℕ} → IsNumber w negative n → Token w (numeral negative n)

-- digits that write a number of 2^128 or more
abbrev pub WritesWide : List ℕ → Type 0
WritesWide digits = IsNumeral 10 digits × (2 ^ 128 ≤ digits_value 10 digits)

-- a numeral that is too wide
pub data IsWide : List ℕ → Type 0 where
  wide : {ds : List ℕ} → WritesWide ds → IsWide ds
  signed_wide : {ds : List ℕ} (b : ℕ) → IsTrue (is_sign b) → WritesWide ds → IsWide (b ∷ ds)

-- a run of constituents that is no token: neither a form, nor a numeral that is too wide, nor a single dot
pub record IsBad (w : List ℕ) : Type 0 where
  pub constituents : IsTrue (list_all is_constituent w)
  pub some : 0 < length w
  pub no_form : (f : Form) → Token w f → ⊥
  pub not_wide : IsWide w → ⊥
  pub no_dot : w ≢ 46 ∷ []
