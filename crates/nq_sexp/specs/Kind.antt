-- What a program finds a token to be.
use Rattle.std.specs.Prelude.{◌≡◌, ℕ, ◌+◌, ◌*◌, ◌^◌, ◌<◌, ◌≤◌, List, [], ◌∷◌, Option, None, Some}
use Rattle.std.specs.Str.Parse.{IsNumeral}
use Rattle.nq_form.specs.Token.{IsSymbol, Writes, IsNumber, WritesWide, IsWide, IsBad}
use Rattle.nq_sexp.specs.declared.token.Digits.{Digits}
use Rattle.nq_sexp.specs.declared.token.Digits.TheVariants.{Other, Narrow, Wide}
use Rattle.nq_sexp.specs.declared.token.TokenKind.{TokenKind}
use Rattle.nq_sexp.specs.declared.token.TokenKind.TheVariants.{Symbol, Numeral, TooWide, Dot, Bad}

abbrev pub IsDigits : List ℕ → Digits → Type 0
IsDigits bytes Other = IsNumeral 10 bytes → ⊥
IsDigits bytes (Narrow n) = Writes bytes n
IsDigits bytes Wide = WritesWide bytes

-- the number with one more digit, or none where it is too wide
abbrev pub Grown : Option ℕ → ℕ → Option ℕ → Type 0
Grown None digit None = Unit {0}
Grown None digit (Some m) = ⊥
Grown (Some n) digit None = 2 ^ 128 ≤ n * 10 + digit
Grown (Some n) digit (Some m) = (m ≡ n * 10 + digit) × (m < 2 ^ 128)

abbrev pub IsKind : List ℕ → TokenKind → Type 0
IsKind w Symbol = IsSymbol w
IsKind w (Numeral negative n) = IsNumber w negative n
IsKind w TooWide = IsWide w
IsKind w Dot = w ≡ 46 ∷ []
IsKind w Bad = IsBad w
