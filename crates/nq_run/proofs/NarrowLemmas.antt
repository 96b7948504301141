-- A form that is read of a text has no list that is longer than the text.
use Rattle.std.proofs.Common.{◌≤◌, ℕ, List, length, arith}
use Rattle.nq_form.specs.Form.{Form, Forms, symbol, numeral, text, quoted, listed, end, dotted, next}
use Rattle.nq_form.specs.Grammar.{Items}
use Rattle.nq_form.specs.Widths.{AllNarrow, IsNarrow}
use Rattle.nq_form.proofs.Widths.{lists_are_narrow}

mutual
  narrower : (m n : ℕ) (f : Form) → m ≤ n → IsNarrow m f → IsNarrow n f
  narrower m n (symbol name) less h = tt
  narrower m n (numeral negative k) less h = tt
  narrower m n (text bytes) less h = tt
  narrower m n (quoted f) less h = narrower m n f less h
  narrower m n (listed fs) less h = (omega (arith, less, h.0), all_narrower m n fs less h.1)

  all_narrower : (m n : ℕ) (fs : Forms) → m ≤ n → AllNarrow m fs → AllNarrow n fs
  all_narrower m n end less h = tt
  all_narrower m n (dotted f) less h = narrower m n f less h
  all_narrower m n (next f fs) less h = (narrower m n f less h.0, all_narrower m n fs less h.1)

-- the forms of a text of so many bytes, or fewer
pub all_narrow : (most levels : ℕ) (t : List ℕ) (fs : Forms) → Items levels t fs → length t ≤ most → AllNarrow most fs
all_narrow most levels t fs items less = all_narrower (length t) most fs less (lists_are_narrow levels t fs items).1

-- the first form of a text of so many bytes, or fewer
pub first_narrow : (most levels : ℕ) (t : List ℕ) (f : Form) → Items levels t (next f end) → length t ≤ most → IsNarrow most f
first_narrow most levels t f items less = (all_narrow most levels t (next f end) items less).0
