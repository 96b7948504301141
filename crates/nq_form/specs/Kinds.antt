-- What a longest run of constituents is, as a function of its bytes.
use Rattle.std.specs.Prelude.{ℕ, ◌^◌, Bool, true, false, ◌&&◌, not, IsTrue, nat_eq, nat_lt, nat_le, List, [], ◌∷◌, length, map}
use Rattle.std.specs.List.{list_all}
use Rattle.std.specs.Char.{digit_value}
use Rattle.std.specs.Str.Parse.{IsNumeral, digits_value}
use Rattle.nq_form.specs.Form.{Form, symbol, numeral}
use Rattle.nq_form.specs.Bytes.{is_constituent, is_sign, upper}
use Rattle.nq_form.specs.Token.{begins_symbol}

-- what a whole token is
pub data Kind : Type 0 where
  form : Form → Kind
  single_dot : Kind
  too_wide : Kind
  no_token : Kind

-- a sign and digits
abbrev pub IsSigned : List ℕ → Type 0
IsSigned [] = ⊥
IsSigned (b ∷ ds) = IsTrue (is_sign b) × IsNumeral 10 ds

-- a single dot
abbrev pub is_dot : List ℕ → Bool
is_dot [] = false
is_dot (b ∷ []) = nat_eq b 46
is_dot (b ∷ c ∷ w) = false

abbrev pub all_digits : List ℕ → Bool
all_digits [] = true
all_digits (c ∷ cs) = nat_lt (digit_value c) 10 && all_digits cs

abbrev pub is_numeral : List ℕ → Bool
is_numeral [] = false
is_numeral (c ∷ cs) = all_digits (c ∷ cs)

-- digits, which are narrow or not, or something else
abbrev pub numeral_or : Bool → Bool → Bool → ℕ → Kind → Kind
numeral_or false narrow negative n else_kind = else_kind
numeral_or true false negative n else_kind = too_wide
numeral_or true true negative n else_kind = form (numeral negative n)

abbrev pub digits_or : Bool → List ℕ → Kind → Kind
digits_or m ds else_kind = numeral_or (is_numeral ds) (nat_lt (digits_value 10 ds) (2 ^ 128)) (m && not (nat_eq (digits_value 10 ds) 0)) (digits_value 10 ds) else_kind

abbrev pub signed_or : Bool → Bool → List ℕ → Kind → Kind
signed_or true m ds else_kind = digits_or false ds else_kind
signed_or false true ds else_kind = digits_or true ds else_kind
signed_or false false ds else_kind = else_kind

abbrev pub is_symbol : List ℕ → Bool
is_symbol w = list_all is_constituent w && (begins_symbol w && nat_le (length w) 256)

abbrev pub symbol_if : Bool → List ℕ → Kind
symbol_if true w = form (symbol (map upper w))
symbol_if false w = no_token

abbrev pub dot_or : Bool → Kind → Kind
dot_or true else_kind = single_dot
dot_or false else_kind = else_kind

abbrev pub kind_of : List ℕ → Kind
kind_of [] = no_token
kind_of (b ∷ ds) = dot_or (is_dot (b ∷ ds)) (digits_or false (b ∷ ds) (signed_or (nat_eq b 43) (nat_eq b 45) ds (symbol_if (is_symbol (b ∷ ds)) (b ∷ ds))))
