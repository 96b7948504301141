-- What a form asks for, as an event.
use Rattle.std.specs.Prelude.{ℕ, Bool, List, Option}
use Rattle.nq_logic.specs.Terms.{Term}
use Rattle.nq_logic.specs.Histories.{Shell, RuleClass}

-- a measure that a definition suggests, and the relation by which it is to fall
pub record Measure : Type 0 where
  pub relation : List ℕ
  pub term : Term

-- an axiom, lemma or definition by its name, with terms for its variables
pub record Instance : Type 0 where
  pub name : List ℕ
  pub pairs : List (List ℕ × Term)

-- What the hints of a lemma say. A hint of TIME says nothing.
pub record Hints : Type 0 where
  pub instances : List Instance
  pub enable : List (List ℕ)
  pub disable : List (List ℕ)
  pub expand : List Term
  pub induct : Option Term
  pub hands_off : List (List ℕ)
  pub no_induct : Bool
  pub no_generalize : Bool
  pub no_arith : Bool

pub data Event : Type 0 where
  BootStrap : Event
  AddShell : (shell : Shell) → Event
  -- a function without axioms
  Dcl : (name : List ℕ) (formals : List (List ℕ)) → Event
  Defn : (name : List ℕ) (formals : List (List ℕ)) (body : Term) (measures : List Measure) → Event
  AddAxiom : (name : List ℕ) (classes : List RuleClass) (term : Term) → Event
  ProveLemma : (name : List ℕ) (classes : List RuleClass) (term : Term) (hints : Hints) → Event
  -- the old name is disabled or enabled from here on
  Toggle : (name old : List ℕ) (disabled : Bool) → Event
  -- the named event and all later ones go
  Undo : (name : List ℕ) → Event
  Skipped : Event
