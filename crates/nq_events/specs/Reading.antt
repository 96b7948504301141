-- The event of a form, and the first refusal of a form.
use Rattle.std.specs.Prelude.{ℕ, List, [], ◌∷◌, map, Option, None, Some, Result, Ok, Err}
use Rattle.nq_logic.specs.Terms.{Name}
use Rattle.nq_logic.specs.Histories.{History, RuleClass}
use Rattle.nq_form.specs.Form.{Form}
use Rattle.nq_language.specs.Translation.{translated}
use Rattle.nq_events.specs.Events as model
use Rattle.nq_events.specs.Events.{Event, Measure}
use Rattle.nq_events.specs.Refusals.{Refusal}
use Rattle.nq_events.specs.Parts.{TypeWord, OfClass, Meta, WrittenMeasure}
use Rattle.nq_events.specs.WrittenHints.{WrittenHint}
use Rattle.nq_events.specs.Outlines.{Outline, Outlined, BootStrap, AddShell, Dcl, Defn, AddAxiom, ProveLemma, Toggle, Switch, Undo, Skipped, outline}
use Rattle.nq_events.specs.TermRefusals.{arity_with, first, outline_refusal}
use Rattle.nq_events.specs.HintTerms.{term_in, instances_given, hints_given}
use Rattle.nq_events.specs.HintRefusals.{hints_refusal, instances_refusal}
use Rattle.nq_events.specs.MadeNames.{made_name}

-- the rule classes among types
abbrev pub classes_of : List TypeWord → List RuleClass
classes_of [] = []
classes_of (OfClass class ∷ types) = class ∷ classes_of types
classes_of (Meta ∷ types) = classes_of types

-- 22, and 15 for an instance of USE
abbrev pub given_refusal : History → List WrittenHint → Option Refusal
given_refusal h hints = first (hints_refusal h hints) (instances_refusal h (instances_given h hints))

abbrev pub outline_hints_refusal : History → Outline → Option Refusal
outline_hints_refusal h BootStrap = None
outline_hints_refusal h (AddShell shell) = None
outline_hints_refusal h (Dcl name formals) = None
outline_hints_refusal h (Defn name formals body measures) = None
outline_hints_refusal h (AddAxiom name types term) = None
outline_hints_refusal h (ProveLemma name types term hints) = given_refusal h hints
outline_hints_refusal h (Toggle name old disabled) = None
outline_hints_refusal h (Switch old disabled) = None
outline_hints_refusal h (Undo name) = None
outline_hints_refusal h Skipped = None

-- for the word and the shapes, then for the terms, then for the hints
abbrev pub refusal_after : History → Outlined → Option Refusal
refusal_after h (Err refusal) = Some refusal
refusal_after h (Ok o) = first (outline_refusal h o) (outline_hints_refusal h o)

-- The first refusal of a form, before an event's own ones.
unfoldable pub event_refusal : History → Form → Option Refusal
event_refusal h form = refusal_after h (outline form)

-- a measure with the term of its form
abbrev pub measure_given : (Name → Option ℕ) → WrittenMeasure → Measure
measure_given arity m = record { relation = m.relation; term = translated arity m.form }

-- the event of an outline, with the terms of its forms
abbrev pub outlined_event : History → Outline → Event
outlined_event h BootStrap = model.BootStrap
outlined_event h (AddShell shell) = model.AddShell shell
outlined_event h (Dcl name formals) = model.Dcl name formals
outlined_event h (Defn name formals body measures) =
    let arity = arity_with h name formals in
    model.Defn name formals (translated arity body) (map (measure_given arity) measures)
outlined_event h (AddAxiom name types term) = model.AddAxiom name (classes_of types) (term_in h term)
outlined_event h (ProveLemma name types term hints) = model.ProveLemma name (classes_of types) (term_in h term) (hints_given h hints)
outlined_event h (Toggle name old disabled) = model.Toggle name old disabled
outlined_event h (Switch old disabled) = model.Toggle (made_name h disabled old) old disabled
outlined_event h (Undo name) = model.Undo name
outlined_event h Skipped = model.Skipped

abbrev pub event_after : History → Outlined → Event
event_after h (Err refusal) = model.Skipped
event_after h (Ok o) = outlined_event h o

-- The event of a form that isn't refused; another form asks for nothing.
unfoldable pub event_of : History → Form → Event
event_of h form = event_after h (outline form)

abbrev pub unless_refused : Option Refusal → Event → Result Event Refusal
unless_refused None event = Ok event
unless_refused (Some refusal) event = Err refusal

-- The event of a form, or its first refusal.
abbrev pub reading : History → Form → Result Event Refusal
reading h form = unless_refused (event_refusal h form) (event_of h form)
