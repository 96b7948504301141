-- What is looked for in a history.
use Rattle.std.specs.Prelude.{◌≡◌, ℕ, ◌-◌, nat_eq, nat_lt, nat_le, not, Bool, true, false, if◌then◌else◌, List, [], ◌∷◌, length, Option, Some, None, is_some, Result, Ok, Err}
use Rattle.nq_logic.specs.Terms.{Name}
use Rattle.nq_logic.specs.Histories.{History}
use Rattle.nq_logic.specs.Ground.{ground_history}
use Rattle.nq_logic.specs.Names.{before_event, event_in, looked_up}
use Rattle.nq_bank.specs.declared.node.Sym.{Sym}
use Rattle.nq_history.specs.declared.entry.Entry.{Entry}
use Rattle.nq_history.specs.Events.{ground_length}
use Rattle.nq_history.specs.declared.entry.EntryKind.{EntryKind}
use Rattle.nq_history.specs.declared.entry.EntryKind.TheVariants as kind
use Rattle.nq_history.specs.declared.history.UndoFault.{UndoFault}
use Rattle.nq_history.specs.declared.history.UndoFault.TheVariants.{NoSuchEvent, GroundEvent}
use Rattle.nq_history.specs.declared.history.PushFault.{PushFault}
use Rattle.nq_history.specs.declared.history.PushFault.TheVariants.{NameInUse, TooManyEvents, Memory}

-- the first entry of this name
abbrev pub entry_named : Sym → List Entry → Option Entry
entry_named name [] = None
entry_named name (e ∷ entries) = if nat_eq name.0 e.name.0 then Some e else entry_named name entries

-- the greatest number of events past the ground history
abbrev pub event_limit : ℕ
event_limit = 10000

-- why an event is not added, where its name is in use or not, and so many events stand past the ground history
abbrev pub push_fault : Bool → ℕ → Option PushFault
push_fault true count = Some NameInUse
push_fault false count = if nat_le event_limit count then Some TooManyEvents else None

-- the answer is this fault; where there is none, only memory can be wanting
abbrev pub IsAnswer : Option PushFault → Result (Unit {0}) PushFault → Type 0
IsAnswer (Some fault) (Ok u) = ⊥
IsAnswer (Some fault) (Err e) = e ≡ fault
IsAnswer None (Ok u) = Unit {0}
IsAnswer None (Err e) = e ≡ Memory

-- whether a name is enabled after an event, where it was so before it or not
abbrev pub kind_enabled : Sym → Bool → EntryKind → Bool
kind_enabled name before (kind.Shell shell) = before
kind_enabled name before (kind.Dcl n) = before
kind_enabled name before (kind.Defn formals body measure) = before
kind_enabled name before (kind.Axiom classes t) = before
kind_enabled name before (kind.Lemma classes t) = before
kind_enabled name before (kind.Toggle old disabled) = if nat_eq name.0 old.0 then not disabled else before

-- whether a name is enabled after these entries
abbrev pub enabled_in : Sym → Bool → List Entry → Bool
enabled_in name before [] = before
enabled_in name before (e ∷ entries) = enabled_in name (kind_enabled name before e.kind) entries

-- the entries before the first one of this name
abbrev pub entries_before : Sym → List Entry → List Entry
entries_before name [] = []
entries_before name (e ∷ entries) = if nat_eq name.0 e.name.0 then [] else e ∷ entries_before name entries

-- why the event at this place, of so many, is not undone
abbrev pub undo_fault : ℕ → ℕ → Option UndoFault
undo_fault place count = if nat_eq place count then Some NoSuchEvent else if nat_lt place ground_length then Some GroundEvent else None

-- the answer of an undo of the event at this place, of so many: how many go
abbrev pub undo_result : Option UndoFault → ℕ → Result ℕ UndoFault
undo_result (Some fault) n = Err fault
undo_result None n = Ok n

abbrev pub undo_answer : ℕ → ℕ → Result ℕ UndoFault
undo_answer place count = undo_result (undo_fault place count) (count - place)

-- an event past the ground history has this name, and it and the later ones are so many
pub record IsUndoable (name : Name) (h : History) (n : ℕ) : Type 0 where
  pub known : is_some (looked_up name h) ≡ true
  pub event : is_some (event_in name h) ≡ true
  pub past : is_some (event_in name ground_history) ≡ false
  pub count : n ≡ length h - length (before_event name h)

-- an event of the ground history has this name
pub record IsGroundEvent (name : Name) (h : History) : Type 0 where
  pub known : is_some (looked_up name h) ≡ true
  pub ground : is_some (event_in name ground_history) ≡ true

-- how many events an undo of this name takes away, or why it is refused
abbrev pub IsUndo : Name → History → Result ℕ UndoFault → Type 0
IsUndo name h (Ok n) = IsUndoable name h n
IsUndo name h (Err NoSuchEvent) = is_some (looked_up name h) ≡ false
IsUndo name h (Err GroundEvent) = IsGroundEvent name h
