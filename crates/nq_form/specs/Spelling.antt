-- The text of a form, with single spaces.
use Rattle.std.specs.Prelude.{⊤, ℕ, suc, ◌^◌, ◌<◌, ◌≤◌, max, Bool, true, false, ◌&&◌, not, IsTrue, List, [], ◌∷◌, ◌++◌, length}
use Rattle.std.specs.List.{list_all}
use Rattle.std.specs.Fmt.{decimal}
use Rattle.nq_form.specs.Form.{Form, Forms, symbol, numeral, text, quoted, listed, end, dotted, next}
use Rattle.nq_form.specs.Bytes.{is_constituent, is_between}
use Rattle.nq_form.specs.Token.{begins_symbol}
use Rattle.nq_form.specs.Grammar.{Items}

abbrev pub spelled_number : Bool → ℕ → List ℕ
spelled_number false n = decimal n
spelled_number true n = 45 ∷ decimal n

unfoldable mutual
  -- a form as text
  pub spelled : Form → List ℕ
  spelled (symbol name) = name
  spelled (numeral negative n) = spelled_number negative n
  spelled (text bytes) = 34 ∷ bytes ++ 34 ∷ []
  spelled (quoted f) = 39 ∷ spelled f
  spelled (listed fs) = 40 ∷ spelled_all fs ++ 41 ∷ []

  pub spelled_all : Forms → List ℕ
  spelled_all end = []
  spelled_all (dotted f) = 46 ∷ 32 ∷ spelled f
  spelled_all (next f fs) = spelled f ++ spelled_rest fs

  -- what stands behind an element
  pub spelled_rest : Forms → List ℕ
  spelled_rest end = []
  spelled_rest (dotted f) = 32 ∷ 46 ∷ 32 ∷ spelled f
  spelled_rest (next f fs) = (32 ∷ spelled f) ++ spelled_rest fs

unfoldable mutual
  -- how many lists and quotes are around what is deepest in a form
  pub nesting : Form → ℕ
  nesting (symbol name) = 0
  nesting (numeral negative n) = 0
  nesting (text bytes) = 0
  nesting (quoted f) = suc (nesting f)
  nesting (listed fs) = suc (nesting_of_all fs)

  pub nesting_of_all : Forms → ℕ
  nesting_of_all end = 0
  nesting_of_all (dotted f) = nesting f
  nesting_of_all (next f fs) = max (nesting f) (nesting_of_all fs)

abbrev pub is_capital : ℕ → Bool
is_capital b = is_constituent b && not (is_between 97 122 b)

-- a symbol in upper case
pub record IsName (w : List ℕ) : Type 0 where
  pub capitals : IsTrue (list_all is_capital w)
  pub front : IsTrue (begins_symbol w)
  pub short : length w ≤ 256

-- a number that a form can hold: no minus stands before 0
abbrev pub IsWritten : Bool → ℕ → Type 0
IsWritten false n = n < 2 ^ 128
IsWritten true n = (0 < n) × (n < 2 ^ 128)

abbrev mutual
  -- no string, names in upper case, and dots only behind an element
  pub IsPlain : Form → Type 0
  IsPlain (symbol name) = IsName name
  IsPlain (numeral negative n) = IsWritten negative n
  IsPlain (text bytes) = ⊥
  IsPlain (quoted f) = IsPlain f
  IsPlain (listed end) = ⊤
  IsPlain (listed (dotted f)) = ⊥
  IsPlain (listed (next f fs)) = IsPlain f × AllPlain fs

  pub AllPlain : Forms → Type 0
  AllPlain end = ⊤
  AllPlain (dotted f) = IsPlain f
  AllPlain (next f fs) = IsPlain f × AllPlain fs

-- The spelling of a form is a text of that form alone, within as many levels as it nests or more.
abbrev pub SpellingIsRead : Type 0
SpellingIsRead = (levels : ℕ) (f : Form) → IsPlain f → nesting f ≤ levels → Items levels (spelled f) (next f end)
