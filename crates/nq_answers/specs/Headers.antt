-- The word and the name in the header of a form's report.
use Rattle.std.specs.Prelude.{ℕ, Bool, List, [], ◌∷◌, Option, Some, None, codes, if◌then◌else◌}
use Rattle.std.specs.List.{list_any}
use Rattle.std.specs.Option.{option_and_then}
use Rattle.std.specs.Str.{bytes_eq}
use Rattle.nq_form.specs.Form.{Form, Forms, symbol, numeral, text, quoted, listed, end, dotted, next}
use Rattle.nq_events.specs.Parts.{symbol_in}

-- what stands in a list before its end or its dot
abbrev pub undotted : Forms → List Form
undotted end = []
undotted (dotted f) = []
undotted (next f fs) = f ∷ undotted fs

-- the elements of a list, but for one behind a dot
abbrev pub front_elements : Form → Option (List Form)
front_elements (symbol name) = None
front_elements (numeral negative n) = None
front_elements (text bytes) = None
front_elements (quoted f) = None
front_elements (listed fs) = Some (undotted fs)

abbrev pub first_symbol_in : List Form → Option (List ℕ)
first_symbol_in [] = None
first_symbol_in (head ∷ rest) = symbol_in head

abbrev pub second_symbol_in : List Form → Option (List ℕ)
second_symbol_in [] = None
second_symbol_in (head ∷ []) = None
second_symbol_in (head ∷ (second ∷ rest)) = symbol_in second

-- the word: the symbol that the list begins with, dotted or not
abbrev pub word_of : Form → Option (List ℕ)
word_of form = option_and_then first_symbol_in (front_elements form)

-- the words of the events whose header shows a name: all but BOOT-STRAP
abbrev pub named_events : List (List ℕ)
named_events =
    codes "ADD-SHELL" ∷ codes "DCL" ∷ codes "DEFN" ∷ codes "ADD-AXIOM" ∷ codes "PROVE-LEMMA"
    ∷ codes "TOGGLE" ∷ codes "DISABLE" ∷ codes "ENABLE" ∷ codes "UNDO-BACK-THROUGH" ∷ []

abbrev pub is_named : List ℕ → Bool
is_named word = list_any (λ event. bytes_eq event word) named_events

abbrev pub name_by : Option (List ℕ) → Option (List ℕ) → Option (List ℕ)
name_by (Some word) name = if is_named word then name else None
name_by None name = None

-- the name: the second element of such an event, where it is a symbol
abbrev pub name_of : Form → Option (List ℕ)
name_of form = name_by (word_of form) (option_and_then second_symbol_in (front_elements form))
