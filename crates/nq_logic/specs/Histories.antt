-- Events and histories: what an event carries, and the functions, shells and definitions that it adds.
use Rattle.std.specs.Prelude.{ℕ, List, [], ◌∷◌, ◌++◌, length, Bool, Option, Some, None}
use Rattle.nq_logic.specs.Terms.{Term, Symbol}

-- what an accessor's part must be: one of these recognizers holds of it, or none of them does
pub data Restriction : Type 0 where
  OneOf : (recognizers : List (List ℕ)) → Restriction
  NoneOf : (recognizers : List (List ℕ)) → Restriction

-- one part of a shell; the default is a function of no argument
pub record Part : Type 0 where
  pub accessor : List ℕ
  pub restriction : Restriction
  pub default : List ℕ

pub record Shell : Type 0 where
  pub constructor : List ℕ
  pub base : Option (List ℕ)
  pub recognizer : List ℕ
  pub parts : List Part

-- a function, its formals and its body, and the measure that falls at each recursive call, if there is such a call
pub record Definition : Type 0 where
  pub function : List ℕ
  pub formals : List (List ℕ)
  pub body : Term
  pub measure : Option Term

-- how an axiom or a lemma is used as a rule
pub data RuleClass : Type 0 where
  Rewrite : RuleClass
  Elim : RuleClass
  Generalize : RuleClass

-- An event. A toggle has a name of its own, and names the event that it disables or enables.
pub data Event : Type 0 where
  AddShell : (shell : Shell) → Event
  Declaration : (name : List ℕ) (arity : ℕ) → Event
  Defines : (definition : Definition) → Event
  Axiom : (name : List ℕ) (classes : List RuleClass) (term : Term) → Event
  Lemma : (name : List ℕ) (classes : List RuleClass) (term : Term) → Event
  Toggle : (name old : List ℕ) (disabled : Bool) → Event

-- the events past the ground history, oldest first
abbrev pub History : Type 0
History = List Event

-- a function of no argument, if there is one
abbrev pub base_symbols : Option (List ℕ) → List Symbol
base_symbols None = []
base_symbols (Some b) = (b, 0) ∷ []

abbrev pub accessor_symbols : List Part → List Symbol
accessor_symbols [] = []
accessor_symbols (part ∷ parts) = (part.accessor, 1) ∷ accessor_symbols parts

abbrev pub shell_symbols : Shell → List Symbol
shell_symbols s =
    (s.constructor, length s.parts) ∷ (base_symbols s.base ++ ((s.recognizer, 1) ∷ accessor_symbols s.parts))

abbrev pub definition_symbol : Definition → Symbol
definition_symbol d = (d.function, length d.formals)

-- the functions that an event adds
abbrev pub event_symbols : Event → List Symbol
event_symbols (AddShell s) = shell_symbols s
event_symbols (Declaration f n) = (f, n) ∷ []
event_symbols (Defines d) = definition_symbol d ∷ []
event_symbols (Axiom n classes t) = []
event_symbols (Lemma n classes t) = []
event_symbols (Toggle n old disabled) = []

abbrev pub events_symbols : History → List Symbol
events_symbols [] = []
events_symbols (e ∷ h) = event_symbols e ++ events_symbols h

-- the shells of a history, oldest first
abbrev pub event_shells : Event → List Shell
event_shells (AddShell s) = s ∷ []
event_shells (Declaration f n) = []
event_shells (Defines d) = []
event_shells (Axiom n classes t) = []
event_shells (Lemma n classes t) = []
event_shells (Toggle n old disabled) = []

abbrev pub events_shells : History → List Shell
events_shells [] = []
events_shells (e ∷ h) = event_shells e ++ events_shells h

-- the definitions of a history, oldest first
abbrev pub event_definitions : Event → List Definition
event_definitions (AddShell s) = []
event_definitions (Declaration f n) = []
event_definitions (Defines d) = d ∷ []
event_definitions (Axiom n classes t) = []
event_definitions (Lemma n classes t) = []
event_definitions (Toggle n old disabled) = []

abbrev pub events_definitions : History → List Definition
events_definitions [] = []
events_definitions (e ∷ h) = event_definitions e ++ events_definitions h
