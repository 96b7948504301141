-- Texts of terms, read and translated.
use Rattle.std.proofs.Common.{◌≡◌, ℕ, ◌≤◌, List, length, sym, subst, append-nil}
use Rattle.nq_form.specs.Form.{Form, Forms, end, next}
use Rattle.nq_form.specs.Grammar.{Ending, Items, Reads, done, to_end, bare}
use Rattle.nq_form.specs.Spelling.{nesting}
use Rattle.nq_form.proofs.OneReading.{one_reading}
use Rattle.nq_language.specs.Printing.{printed}
use Rattle.nq_language.proofs.PrintedForms.{printed_is_read}
use Rattle.nq_abbrev.specs.Printed.{PrintedIsTranslated}

whole : (levels limit : ℕ) (t : List ℕ) (fs : Forms) → Items levels t fs → length t ≤ limit → Reads levels limit t fs done
whole levels limit t fs items short =
    subst (λ (u : List ℕ). Reads levels limit u fs done) (append-nil t) (to_end items bare (subst (λ (u : List ℕ). length u ≤ limit) (sym (append-nil t)) short))

-- a text that spells one form has no other reading
pub read_whole : (text : List ℕ) (f : Form) → ((levels : ℕ) → nesting f ≤ levels → Items levels text (next f end))
    → (levels limit : ℕ) (fs : Forms) (e : Ending) → nesting f ≤ levels → length text ≤ limit → Reads levels limit text fs e → (fs ≡ next f end) × (e ≡ done)
read_whole text f spelled levels limit fs e nested short reads =
    one_reading levels limit text fs (next f end) e done reads (whole levels limit text (next f end) (spelled levels nested) short)

pub printed_is_translated : PrintedIsTranslated
printed_is_translated arity t ok small = let r = printed_is_read arity t ok small in (r.0, r.1, read_whole (printed t) r.0 r.2)
