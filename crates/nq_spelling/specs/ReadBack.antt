-- Histories over whose functions every term is written so that it is read back.
use Rattle.std.specs.Prelude.{◌≡◌, ◌≤◌, ◌++◌, ℕ, ◌^◌, IsTrue, false, [], ◌∷◌, length, Option, None}
use Rattle.nq_logtext.specs.Symbols.{is_symbol}
use Rattle.nq_logic.specs.Terms.{Each, IsTerm, Name, Term}
use Rattle.nq_logic.specs.Histories.{History, Event, event_symbols}
use Rattle.nq_logic.specs.Ground.{symbols_of}
use Rattle.nq_logic.specs.Names.{before_event, is_in_use, symbol_names}
use Rattle.nq_logic.specs.Admissible.{AreDistinct}
use Rattle.nq_form.specs.Form.{Form, Forms, end, next}
use Rattle.nq_form.specs.Grammar.{Ending, done, Reads}
use Rattle.nq_form.specs.Spelling.{nesting}
use Rattle.nq_form.specs.Widths.{IsNarrow}
use Rattle.nq_language.specs.Limits.{is_large}
use Rattle.nq_language.specs.Printing.{HasNames, IsUsable, printed}
use Rattle.nq_language.specs.Refusals.{sized, translation}
use Rattle.nq_events.specs.Effects.{history_after}
use Rattle.nq_events.specs.OwnRefusals.{own_refusal}
use Rattle.nq_events.specs.Reading.{event_of, event_refusal}
use Rattle.nq_events.specs.TermRefusals.{arity_of}
use Rattle.nq_spelling.specs.Spelled.{IsSpelled}

-- The functions that an event adds have symbols in upper case for names. None of these is in use, or reserved, and none stands
-- twice.
pub record AddsNewFunctions (h : History) (e : Event) : Type 0 where
  pub spelled : Each (λ n. IsTrue (is_symbol n)) (symbol_names (event_symbols e))
  pub unused : Each (λ n. is_in_use n h ≡ false) (symbol_names (event_symbols e))
  pub distinct : AreDistinct (symbol_names (event_symbols e))

-- A history that grew from the ground history by such events and by undos.
pub data IsGrown : History → Type 0 where
  ground : IsGrown []
  added : {h : History} (e : Event) → IsGrown h → AddsNewFunctions h e → IsGrown (h ++ e ∷ [])
  undone : {h : History} (n : Name) → IsGrown h → IsGrown (before_event n h)

-- Such are the histories of a run: the event of a form of a text, which isn't refused, leaves such a history.
abbrev pub FormsGrowHistories : Type 0
FormsGrowHistories = (h : History) (form : Form) (measure : Option Term) → IsGrown h → IsSpelled form → IsNarrow (2 ^ 25) form
    → event_refusal h form ≡ None → own_refusal h (event_of h form) ≡ None → IsGrown (history_after h (event_of h form) measure)

-- each function of the history has its arity there, and a name that can be written and has no other meaning
abbrev pub HasUsableFunctions : History → Type 0
HasUsableFunctions h = Each (λ s. IsUsable (arity_of h) s.0 s.1) (symbols_of h)

abbrev pub GrownIsUsable : Type 0
GrownIsUsable = (h : History) → IsGrown h → HasUsableFunctions h

-- However the text of a term over the functions of such a history is read, it has one form, whose translation is the term, unless
-- the term is large, or the form or the text passes a limit of the reader.
abbrev pub PrintedIsReadBack : Type 0
PrintedIsReadBack = (h : History) (t : Term) → IsGrown h → IsTerm (symbols_of h) t → HasNames t → is_large t ≡ false
    → (f : Form) × (translation (arity_of h) f ≡ sized t)
    × ((levels limit : ℕ) (fs : Forms) (e : Ending) → nesting f ≤ levels → length (printed t) ≤ limit → Reads levels limit (printed t) fs e → (fs ≡ next f end) × (e ≡ done))
