-- The parts of an event form: names, lists of symbols, types, measures, restrictions.
use Rattle.std.specs.Prelude.{ℕ, nat_le, if◌then◌else◌, List, [], ◌∷◌, length, Option, None, Some}
use Rattle.std.specs.Option.{option_map, option_and_then}
use Rattle.nq_logic.specs.Terms.{Name}
use Rattle.nq_logic.specs.Histories.{RuleClass, Rewrite, Elim, Generalize, Restriction, OneOf, NoneOf, Part}
use Rattle.nq_form.specs.Form.{Form, Forms, symbol, numeral, text, quoted, listed, end, dotted, next}
use Rattle.nq_language.specs.Abbreviations.{is_word}

-- what stands in a list with no dot
abbrev pub proper : Forms → Option (List Form)
proper end = Some []
proper (dotted f) = None
proper (next f fs) = option_map (λ rest. f ∷ rest) (proper fs)

-- the elements of a list; the symbol NIL is the empty list
abbrev pub elements : Form → Option (List Form)
elements (symbol name) = if is_word "NIL" name then Some [] else None
elements (numeral negative n) = None
elements (text bytes) = None
elements (quoted f) = None
elements (listed fs) = proper fs

abbrev pub with_first : {X : Type 0} → Option X → Option (List X) → Option (List X)
with_first (Some x) (Some xs) = Some (x ∷ xs)
with_first (Some x) None = None
with_first None rest = None

-- what each of the forms gives, where each gives something
abbrev pub each : {X : Type 0} → (Form → Option X) → List Form → Option (List X)
each read [] = Some []
each read (f ∷ fs) = with_first (read f) (each read fs)

-- the same for the elements of a list
abbrev pub each_in : {X : Type 0} → (Form → Option X) → Form → Option (List X)
each_in read form = option_and_then (each read) (elements form)

abbrev pub symbol_in : Form → Option Name
symbol_in (symbol name) = Some name
symbol_in (numeral negative n) = None
symbol_in (text bytes) = None
symbol_in (quoted f) = None
symbol_in (listed fs) = None

abbrev pub symbols_in : Form → Option (List Name)
symbols_in form = each_in symbol_in form

-- at most so many of them
abbrev pub at_most : {X : Type 0} → ℕ → List X → Option (List X)
at_most n xs = if nat_le (length xs) n then Some xs else None

-- the name of a new event or function: a symbol of at most 240 bytes
abbrev pub name_in : Form → Option Name
name_in form = option_and_then (at_most 240) (symbol_in form)

-- a type: a rule class, or a form that begins with META, which the language leaves out
pub data TypeWord : Type 0 where
  OfClass : (class : RuleClass) → TypeWord
  Meta : TypeWord

abbrev pub class_of : Name → Option TypeWord
class_of word =
    if is_word "REWRITE" word then Some (OfClass Rewrite)
    else (if is_word "ELIM" word then Some (OfClass Elim)
    else (if is_word "GENERALIZE" word then Some (OfClass Generalize) else None))

-- a list that begins with META, dotted or not
abbrev pub meta_in : Forms → Option TypeWord
meta_in end = None
meta_in (dotted f) = None
meta_in (next f fs) = option_and_then (λ word. if is_word "META" word then Some Meta else None) (symbol_in f)

abbrev pub type_in : Form → Option TypeWord
type_in (symbol name) = class_of name
type_in (numeral negative n) = None
type_in (text bytes) = None
type_in (quoted f) = None
type_in (listed fs) = meta_in fs

abbrev pub types_in : Form → Option (List TypeWord)
types_in form = each_in type_in form

-- a measure as it is written
pub record WrittenMeasure : Type 0 where
  pub relation : List ℕ
  pub form : Form

abbrev pub measure_of : List Form → Option WrittenMeasure
measure_of (relation ∷ measure ∷ []) = option_map (λ r. record { relation = r; form = measure }) (symbol_in relation)
measure_of _ = None

-- a list of a symbol and one form
abbrev pub measure_in : Form → Option WrittenMeasure
measure_in form = option_and_then measure_of (elements form)

abbrev pub measures_in : Form → Option (List WrittenMeasure)
measures_in form = each_in measure_in form

abbrev pub restriction_by : Name → List Name → Option Restriction
restriction_by word recognizers =
    if is_word "ONE-OF" word then Some (OneOf recognizers) else (if is_word "NONE-OF" word then Some (NoneOf recognizers) else None)

abbrev pub restriction_of : List Name → Option Restriction
restriction_of [] = None
restriction_of (word ∷ recognizers) = option_and_then (restriction_by word) (at_most 100 recognizers)

-- a list of ONE-OF or NONE-OF and at most 100 symbols
abbrev pub restriction_in : Form → Option Restriction
restriction_in form = option_and_then restriction_of (symbols_in form)

abbrev pub part_by : Option Name → Option Restriction → Option Name → Option Part
part_by (Some name) (Some what) (Some constant) = Some (record { accessor = name; restriction = what; default = constant })
part_by _ _ _ = None

abbrev pub part_of : List Form → Option Part
part_of (accessor ∷ restriction ∷ default ∷ []) = part_by (name_in accessor) (restriction_in restriction) (symbol_in default)
part_of _ = None

-- a list of an accessor's name, a restriction, and a symbol
abbrev pub part_in : Form → Option Part
part_in form = option_and_then part_of (elements form)

-- the parts of a shell, of which there are at most 20
abbrev pub shell_parts_in : Form → Option (List Part)
shell_parts_in form = option_and_then (at_most 20) (each_in part_in form)
