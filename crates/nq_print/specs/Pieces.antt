-- The pieces of a term's text.
use Rattle.std.specs.Prelude.{ℕ, Bool, true, false, not, Option, None, Some, is_some, if◌then◌else◌, List, [], ◌∷◌, ◌++◌}
use Rattle.std.specs.List.{flat_map}
use Rattle.nq_logic.specs.Terms.{Term, Variable, Function, Applied}
use Rattle.nq_form.specs.Form.{Form, Forms, symbol, numeral, listed, end, dotted}
use Rattle.nq_form.specs.Spelling.{spelled, spelled_rest}
use Rattle.nq_language.specs.Abbreviations.{is_word}
use Rattle.nq_language.specs.Quotations.{object_of}
use Rattle.nq_language.specs.Printing.{letter_of, path_name, shown, printed_form}

-- a letter, if there is one, with an argument
abbrev pub letter_with : Option ℕ → Term → Option (ℕ × Term)
letter_with None u = None
letter_with (Some b) u = Some (b, u)

-- the letter of a call of CAR or CDR, with the argument
abbrev pub letter_at : Term → Option (ℕ × Term)
letter_at (Variable x) = None
letter_at (Function f) = None
letter_at (Applied t u) = letter_with (letter_of t) u

-- what stands before and behind the form inside a nest of CAR and CDR
abbrev pub opening : List ℕ → List ℕ
opening [] = []
opening (b ∷ bs) = 40 ∷ path_name (b ∷ bs) ++ 32 ∷ []

abbrev pub closing : List ℕ → List ℕ
closing [] = []
closing (b ∷ bs) = 41 ∷ []

-- is it printed as a quoted object?
abbrev pub is_object : Term → Bool
is_object t = is_some (object_of t)

-- the text of an object
abbrev pub object_text : Option Form → List ℕ
object_text None = []
object_text (Some f) = spelled f

-- what stands in a list behind an element, where the list's tail is this object
abbrev pub tail_of : Form → Forms
tail_of (listed fs) = fs
tail_of (symbol x) = if is_word "NIL" x then end else dotted (symbol x)
tail_of f = dotted f

abbrev pub tail_text : Option Form → List ℕ
tail_text None = []
tail_text (Some f) = spelled_rest (tail_of f)

-- is it the symbol NIL?
abbrev pub is_nil_form : Option Form → Bool
is_nil_form (Some (symbol x)) = is_word "NIL" x
is_nil_form _ = false

-- a quote mark stands before an object other than a number and NIL
abbrev pub is_quoted : Option Form → Bool
is_quoted None = false
is_quoted (Some (symbol x)) = not (is_word "NIL" x)
is_quoted (Some (numeral negative n)) = false
is_quoted (Some f) = true

abbrev pub shown_text : Option Form → List ℕ
shown_text None = []
shown_text (Some f) = spelled (shown f)

-- the arguments of a call, with a space before each
abbrev pub arguments_text : List Term → List ℕ
arguments_text ts = flat_map (λ t. 32 ∷ spelled (printed_form t)) ts

abbrev pub call_text : List ℕ → List Term → List ℕ
call_text f ts = 40 ∷ f ++ arguments_text ts ++ 41 ∷ []
