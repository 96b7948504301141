-- How many forms stand in the lists of a form.
use Rattle.std.specs.Prelude.{ℕ, suc, ◌≤◌, List, length}
use Rattle.nq_form.specs.Form.{Form, Forms, symbol, numeral, text, quoted, listed, end, dotted, next}
use Rattle.nq_form.specs.Grammar.{Items}

-- the elements, and what stands behind a dot
abbrev pub count : Forms → ℕ
count end = 0
count (dotted f) = 1
count (next f fs) = suc (count fs)

abbrev mutual
  -- no list in the form has more forms than these
  pub IsNarrow : ℕ → Form → Type 0
  IsNarrow most (symbol name) = Unit {0}
  IsNarrow most (numeral negative n) = Unit {0}
  IsNarrow most (text bytes) = Unit {0}
  IsNarrow most (quoted f) = IsNarrow most f
  IsNarrow most (listed fs) = (count fs ≤ most) × AllNarrow most fs

  pub AllNarrow : ℕ → Forms → Type 0
  AllNarrow most end = Unit {0}
  AllNarrow most (dotted f) = IsNarrow most f
  AllNarrow most (next f fs) = IsNarrow most f × AllNarrow most fs

-- No list has more forms than its text has bytes.
abbrev pub ListsAreNarrow : Type 0
ListsAreNarrow = (levels : ℕ) (t : List ℕ) (fs : Forms) → Items levels t fs → (count fs ≤ length t) × AllNarrow (length t) fs
