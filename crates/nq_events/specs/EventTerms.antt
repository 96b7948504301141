-- What is known of the terms of an event whose form isn't refused.
use Rattle.std.specs.Prelude.{◌≡◌, ⊤, false, Option, None, Some, List, ◌∷◌, length}
use Rattle.nq_logic.specs.Terms.{Symbol, Term, Each}
use Rattle.nq_logic.specs.Histories.{History}
use Rattle.nq_logic.specs.Ground.{symbols_of}
use Rattle.nq_form.specs.Form.{Form}
use Rattle.nq_language.specs.Limits.{is_too_large}
use Rattle.nq_events.specs.Events.{Event, Hints, Instance, Measure, BootStrap, AddShell, Dcl, Defn, AddAxiom, ProveLemma, Toggle, Undo, Skipped}
use Rattle.nq_events.specs.ReadTerms.{IsReadTerm}
use Rattle.nq_events.specs.Reading.{event_refusal, event_of}

-- a term over these symbols, within the limits of a term of an event
pub record IsEventTerm (symbols : List Symbol) (t : Term) : Type 0 where
  pub read : IsReadTerm symbols t
  pub small : is_too_large t ≡ false

abbrev pub HasInductTerm : List Symbol → Option Term → Type 0
HasInductTerm symbols None = ⊤
HasInductTerm symbols (Some t) = IsEventTerm symbols t

abbrev pub HasInstanceTerms : List Symbol → Instance → Type 0
HasInstanceTerms symbols i = Each (λ p. IsEventTerm symbols p.1) i.pairs

pub record HasHintTerms (symbols : List Symbol) (hints : Hints) : Type 0 where
  pub instances : Each (HasInstanceTerms symbols) hints.instances
  pub expand : Each (IsEventTerm symbols) hints.expand
  pub induct : HasInductTerm symbols hints.induct

pub record HasDefinitionTerms (symbols : List Symbol) (body : Term) (measures : List Measure) : Type 0 where
  pub body_term : IsEventTerm symbols body
  pub measure_terms : Each (λ m. IsEventTerm symbols m.term) measures

-- The terms of an event are over the functions of the history; those of a definition may call its function too.
abbrev pub HasEventTerms : History → Event → Type 0
HasEventTerms h BootStrap = ⊤
HasEventTerms h (AddShell shell) = ⊤
HasEventTerms h (Dcl name formals) = ⊤
HasEventTerms h (Defn name formals body measures) = HasDefinitionTerms ((name, length formals) ∷ symbols_of h) body measures
HasEventTerms h (AddAxiom name classes t) = IsEventTerm (symbols_of h) t
HasEventTerms h (ProveLemma name classes t hints) = IsEventTerm (symbols_of h) t × HasHintTerms (symbols_of h) hints
HasEventTerms h (Toggle name old disabled) = ⊤
HasEventTerms h (Undo name) = ⊤
HasEventTerms h Skipped = ⊤

-- It is so of each form that isn't refused.
abbrev pub EventsHaveTerms : Type 0
EventsHaveTerms = (h : History) (form : Form) → event_refusal h form ≡ None → HasEventTerms h (event_of h form)
