-- The terms of an event: over which functions they are read, and their first refusal from left to right.
use Rattle.std.specs.Prelude.{ℕ, bytes_eq, if◌then◌else◌, List, [], ◌∷◌, ◌++◌, length, map, codes, Option, None, Some, Result, Ok, Err}
use Rattle.nq_logic.specs.Terms.{Name, Term}
use Rattle.nq_logic.specs.Histories.{History}
use Rattle.nq_logic.specs.Ground.{symbols_of}
use Rattle.nq_form.specs.Form.{Form}
use Rattle.nq_language.specs.Arities.{arity_in}
use Rattle.nq_language.specs.Refusals.{translation}
use Rattle.nq_language.specs.Refusals as language
use Rattle.nq_events.specs.Refusals.{Refusal, OfLanguage, out_of_scope}
use Rattle.nq_events.specs.Parts.{TypeWord, OfClass, Meta, WrittenMeasure}
use Rattle.nq_events.specs.WrittenHints.{WrittenPair, WrittenInstance, WrittenHint, HintKind, Use, Enable, Disable, Expand, Induct, DoNotInduct, DoNotGeneralize, HandsOff, NoArithmetic, Time}
use Rattle.nq_events.specs.Outlines.{Outline, BootStrap, AddShell, Dcl, Defn, AddAxiom, ProveLemma, Toggle, Switch, Undo, Skipped}

-- the functions of the history
abbrev pub arity_of : History → Name → Option ℕ
arity_of h f = arity_in (symbols_of h) f

-- in the terms of a definition the function has the arity of its formals, whatever stands in the history
abbrev pub arity_with : History → Name → List Name → Name → Option ℕ
arity_with h f formals g = if bytes_eq g f then Some (length formals) else arity_of h g

-- the first of two refusals
abbrev pub first : Option Refusal → Option Refusal → Option Refusal
first None other = other
first (Some refusal) other = Some refusal

abbrev pub language_refusal : Result Term language.Refusal → Option Refusal
language_refusal (Ok term) = None
language_refusal (Err refusal) = Some (OfLanguage refusal)

-- 10 to 15: the refusal of one term
abbrev pub term_refusal : (Name → Option ℕ) → Form → Option Refusal
term_refusal arity form = language_refusal (translation arity form)

abbrev pub terms_refusal : (Name → Option ℕ) → List Form → Option Refusal
terms_refusal arity [] = None
terms_refusal arity (form ∷ forms) = first (term_refusal arity form) (terms_refusal arity forms)

-- 12 META
abbrev pub types_refusal : List TypeWord → Option Refusal
types_refusal [] = None
types_refusal (OfClass class ∷ types) = types_refusal types
types_refusal (Meta ∷ types) = Some (out_of_scope (codes "META"))

abbrev pub measure_forms : List WrittenMeasure → List Form
measure_forms measures = map (λ m. m.form) measures

abbrev pub pair_forms : List WrittenPair → List Form
pair_forms pairs = map (λ p. p.form) pairs

abbrev pub instances_forms : List WrittenInstance → List Form
instances_forms [] = []
instances_forms (i ∷ instances) = pair_forms i.pairs ++ instances_forms instances

abbrev pub kind_forms : HintKind → List Form
kind_forms (Use instances) = instances_forms instances
kind_forms (Enable names) = []
kind_forms (Disable names) = []
kind_forms (Expand forms) = forms
kind_forms (Induct form) = form ∷ []
kind_forms DoNotInduct = []
kind_forms DoNotGeneralize = []
kind_forms (HandsOff functions) = []
kind_forms NoArithmetic = []
kind_forms Time = []

-- the terms of a hint of another shape are not read
abbrev pub hint_forms : Option HintKind → List Form
hint_forms None = []
hint_forms (Some kind) = kind_forms kind

abbrev pub hints_forms : List WrittenHint → List Form
hints_forms [] = []
hints_forms (hint ∷ hints) = hint_forms hint.kind ++ hints_forms hints

-- The first refusal of an event's terms, types and hints included.
abbrev pub outline_refusal : History → Outline → Option Refusal
outline_refusal h BootStrap = None
outline_refusal h (AddShell shell) = None
outline_refusal h (Dcl name formals) = None
outline_refusal h (Defn name formals body measures) = terms_refusal (arity_with h name formals) (body ∷ measure_forms measures)
outline_refusal h (AddAxiom name types term) = first (types_refusal types) (term_refusal (arity_of h) term)
outline_refusal h (ProveLemma name types term hints) = first (types_refusal types) (terms_refusal (arity_of h) (term ∷ hints_forms hints))
outline_refusal h (Toggle name old disabled) = None
outline_refusal h (Switch old disabled) = None
outline_refusal h (Undo name) = None
outline_refusal h Skipped = None
