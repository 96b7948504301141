-- Texts of terms, read and translated.
use Rattle.std.specs.Prelude.{◌≡◌, ℕ, ◌≤◌, false, Option, length}
use Rattle.nq_logic.specs.Terms.{Name, Term}
use Rattle.nq_form.specs.Form.{Form, Forms, end, next}
use Rattle.nq_form.specs.Grammar.{Ending, done, Reads}
use Rattle.nq_form.specs.Spelling.{nesting}
use Rattle.nq_language.specs.Limits.{is_large}
use Rattle.nq_language.specs.Printing.{printed, IsPrintable}
use Rattle.nq_language.specs.Refusals.{translation, sized}

-- However the text of a term is read, it has one form, whose translation is the term, unless the term is large, or the
-- form or the text passes a limit of the reader.
abbrev pub PrintedIsTranslated : Type 0
PrintedIsTranslated = (arity : Name → Option ℕ) (t : Term) → IsPrintable arity t 0 → is_large t ≡ false
    → (f : Form) × (translation arity f ≡ sized t)
    × ((levels limit : ℕ) (fs : Forms) (e : Ending) → nesting f ≤ levels → length (printed t) ≤ limit → Reads levels limit (printed t) fs e → (fs ≡ next f end) × (e ≡ done))
