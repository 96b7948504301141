-- What forms that are given as text are refused for, or ask for, one behind the other.
use Prim.Native.String.{String as Text}
use Rattle.std.specs.Prelude.{◌≡◌, ℕ, ◌^◌, List, [], ◌∷◌, map, codes, Option, None, Some, Ok}
use Rattle.nq_logic.specs.Terms.{Name}
use Rattle.nq_logic.specs.Histories.{History}
use Rattle.nq_form.specs.Form.{Form, Forms, symbol, end, dotted, next}
use Rattle.nq_form.specs.Kinds.{kind_of}
use Rattle.nq_form.specs.Machine.{idle, run, finish}
use Rattle.nq_events.specs.Events.{Event}
use Rattle.nq_events.specs.Refusals.{Refusal, code_of, words_of}
use Rattle.nq_events.specs.TermRefusals.{first}
use Rattle.nq_events.specs.Reading.{event_refusal, event_of, unless_refused}
use Rattle.nq_events.specs.OwnRefusals.{own_refusal}
use Rattle.nq_events.specs.Effects.{history_after}

-- the forms of a text, as it is read
abbrev pub forms_in : Text → Forms
forms_in text = (finish kind_of (run kind_of (2 ^ 25) 0 (idle (record { frames = []; forms = end; depth = 500 })) (codes text))).forms

abbrev pub first_form : Forms → Form
first_form end = symbol []
first_form (dotted f) = f
first_form (next f fs) = f

-- the one form of a text
abbrev pub form_in : Text → Form
form_in text = first_form (forms_in text)

-- every refusal, those of the event's own among them
abbrev pub refusal : History → Form → Option Refusal
refusal h form = first (event_refusal h form) (own_refusal h (event_of h form))

abbrev pub told : Option Refusal → Option (ℕ × List Name)
told None = None
told (Some r) = Some (code_of r, words_of r)

-- the text's form is refused with this code and these words
abbrev pub IsRefused : History → Text → ℕ → List Text → Type 0
IsRefused h text code words = told (refusal h (form_in text)) ≡ Some (code, map codes words)

-- the text's form is refused for this
abbrev pub IsRefusedFor : History → Text → Refusal → Type 0
IsRefusedFor h text r = refusal h (form_in text) ≡ Some r

-- nothing is refused
abbrev pub IsAllowed : History → Text → Type 0
IsAllowed h text = refusal h (form_in text) ≡ None

-- nothing is refused, and the form asks for this event
abbrev pub AsksFor : History → Text → Event → Type 0
AsksFor h text event = unless_refused (refusal h (form_in text)) (event_of h (form_in text)) ≡ Ok event

abbrev pub history_unless : Option Refusal → History → Event → History
history_unless None h event = history_after h event None
history_unless (Some r) h event = h

-- the history after forms whose definitions aren't recursive and whose lemmas are proved
abbrev pub history_of : History → Forms → History
history_of h end = h
history_of h (dotted form) = h
history_of h (next form forms) = history_of (history_unless (refusal h form) h (event_of h form)) forms

-- the refusals of these forms in turn
abbrev pub refusals_of : History → Forms → List (Option Refusal)
refusals_of h end = []
refusals_of h (dotted form) = []
refusals_of h (next form forms) = refusal h form ∷ refusals_of (history_unless (refusal h form) h (event_of h form)) forms
