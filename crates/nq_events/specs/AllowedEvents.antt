-- What is known of an event that isn't refused, in the history before it.
use Rattle.std.specs.Prelude.{◌≡◌, ⊤, ◌<◌, ℕ, true, false, None, List, length}
use Rattle.nq_logic.specs.Terms.{Name, Term, Each}
use Rattle.nq_logic.specs.Histories.{History, Definition, Shell, RuleClass}
use Rattle.nq_logic.specs.Ground.{ground_history}
use Rattle.nq_logic.specs.Names.{has_name, constant_names, is_in_use, event_in}
use Rattle.nq_logic.specs.Admissible.{AreDistinct, HasVariables, mentions, IsAdmissible}
use Rattle.nq_logic.specs.RuleShapes.{IsOfShape}
use Rattle.nq_logic.specs.ShellPrinciple.{IsShellAcceptedIn}
use Rattle.nq_form.specs.Form.{Form}
use Rattle.nq_events.specs.Events.{Event, Measure, BootStrap, AddShell, Dcl, Defn, AddAxiom, ProveLemma, Toggle, Undo, Skipped}
use Rattle.nq_events.specs.HintRefusals.{is_event}
use Rattle.nq_events.specs.Reading.{event_refusal, event_of}
use Rattle.nq_events.specs.OwnRefusals.{own_refusal, event_limit}

-- there is room for one event more
abbrev pub HasRoom : History → Type 0
HasRoom h = length h < event_limit

-- an event of this name may be added
pub record IsAddable (h : History) (name : List ℕ) : Type 0 where
  pub unused : is_in_use name h ≡ false
  pub room : HasRoom h

-- distinct variables
pub record AreFormals (formals : List (List ℕ)) : Type 0 where
  pub distinct : AreDistinct formals
  pub variables : Each (λ x. has_name x constant_names ≡ false) formals

-- a function without axioms
pub record IsDeclarable (h : History) (name : List ℕ) (formals : List (List ℕ)) : Type 0 where
  pub addable : IsAddable h name
  pub formals_are : AreFormals formals

-- a definition, but for the proof of a measure
pub record IsDefinable (h : History) (name : List ℕ) (formals : List (List ℕ)) (body : Term) (measures : List Measure) : Type 0 where
  pub addable : IsAddable h name
  pub formals_are : AreFormals formals
  pub closed : HasVariables formals body
  pub measured : Each (λ m. HasVariables formals m.term) measures

-- an axiom or a lemma that can serve as a rule of each of these classes
pub record IsStatable (h : History) (name : List ℕ) (classes : List RuleClass) (t : Term) : Type 0 where
  pub addable : IsAddable h name
  pub fits : Each (λ class. IsOfShape class t) classes

pub record IsShellAddable (h : History) (shell : Shell) : Type 0 where
  pub accepted : IsShellAcceptedIn h shell
  pub room : HasRoom h

pub record IsTogglable (h : History) (name old : List ℕ) : Type 0 where
  pub addable : IsAddable h name
  pub known : is_event h old ≡ true

-- an event past the ground history
pub record IsUndoable (h : History) (name : List ℕ) : Type 0 where
  pub known : is_event h name ≡ true
  pub own : event_in name ground_history ≡ None

abbrev pub IsAllowedEvent : History → Event → Type 0
IsAllowedEvent h BootStrap = ⊤
IsAllowedEvent h (AddShell shell) = IsShellAddable h shell
IsAllowedEvent h (Dcl name formals) = IsDeclarable h name formals
IsAllowedEvent h (Defn name formals body measures) = IsDefinable h name formals body measures
IsAllowedEvent h (AddAxiom name classes t) = IsStatable h name classes t
IsAllowedEvent h (ProveLemma name classes t hints) = IsStatable h name classes t
IsAllowedEvent h (Toggle name old disabled) = IsTogglable h name old
IsAllowedEvent h (Undo name) = IsUndoable h name
IsAllowedEvent h Skipped = ⊤

-- An event without a refusal of its own meets the conditions of its kind, the Shell Principle among them.
abbrev pub EventsAreAllowed : Type 0
EventsAreAllowed = (h : History) (event : Event) → own_refusal h event ≡ None → IsAllowedEvent h event

abbrev pub plain_definition : Name → List Name → Term → Definition
plain_definition name xs t = record { function = name; formals = xs; body = t; measure = None }

-- A form that isn't refused and asks for a definition without a recursive call meets the Definition Principle.
abbrev pub PlainDefinitionsAreAdmissible : Type 0
PlainDefinitionsAreAdmissible =
    (h : History) (form : Form) (name : Name) (formals : List Name) (body : Term) (measures : List Measure)
    → event_refusal h form ≡ None → event_of h form ≡ Defn name formals body measures → own_refusal h (Defn name formals body measures) ≡ None
    → mentions name body ≡ false → IsAdmissible h (plain_definition name formals body)
