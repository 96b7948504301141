-- What the entries of a history mean over a bank.
use Rattle.std.specs.Prelude.{◌≡◌, ℕ, List, map, take, drop, All, Option, Some, None, IfSome}
use Rattle.std.specs.Option.{option_map}
use Rattle.nq_logic.specs.Histories.{Event, AddShell, Declaration, Defines, Axiom, Lemma, Toggle, RuleClass, Rewrite, Elim, Generalize}
use Rattle.nq_logic.specs.Ground.{ground_history}
use Rattle.nq_bank.specs.Content.{Content, Stands, IsNamed, text_at, term_at}
use Rattle.nq_bank.specs.Shells.{shell_at, texts_at, ShellStands}
use Rattle.nq_bank.specs.declared.node.Sym.{Sym}
use Rattle.nq_bank.specs.declared.node.TermId.{TermId}
use Rattle.nq_history.specs.declared.entry.Class.{Class}
use Rattle.nq_history.specs.declared.entry.Class.TheVariants as class
use Rattle.nq_history.specs.declared.entry.EntryKind.{EntryKind}
use Rattle.nq_history.specs.declared.entry.EntryKind.TheVariants as kind
use Rattle.nq_history.specs.declared.entry.Entry.{Entry}

abbrev pub class_of : Class → RuleClass
class_of class.Rewrite = Rewrite
class_of class.Elim = Elim
class_of class.Generalize = Generalize

abbrev pub event_of : Content → Sym → EntryKind → Event
event_of bank name (kind.Shell shell) = AddShell (shell_at bank shell)
event_of bank name (kind.Dcl n) = Declaration (text_at bank name) n
event_of bank name (kind.Defn formals body measure) =
    Defines (record { function = text_at bank name; formals = texts_at bank formals.items; body = term_at bank body; measure = option_map (term_at bank) measure })
event_of bank name (kind.Axiom classes t) = Axiom (text_at bank name) (map class_of classes.items) (term_at bank t)
event_of bank name (kind.Lemma classes t) = Lemma (text_at bank name) (map class_of classes.items) (term_at bank t)
event_of bank name (kind.Toggle old disabled) = Toggle (text_at bank name) (text_at bank old) disabled

-- the event of an entry
abbrev pub event_at : Content → Entry → Event
event_at bank e = event_of bank e.name e.kind

-- how many events the ground history has
abbrev pub ground_length : ℕ
ground_length = 38

-- all events of a history's entries, those of the ground history first
abbrev pub all_events_at : Content → List Entry → List Event
all_events_at bank history = map (event_at bank) history

-- the entries past the ground history
abbrev pub past_ground : List Entry → List Entry
past_ground history = drop ground_length history

-- the events past the ground history: what the logic calls a history
abbrev pub events_at : Content → List Entry → List Event
events_at bank history = map (event_at bank) (past_ground history)

-- the names and terms of a definition stand in the bank
pub record DefinitionStands (bank : Content) (xs : List Sym) (t : TermId) (m : Option TermId) : Type 0 where
  pub formals : All (IsNamed bank) xs
  pub body : Stands bank t
  pub measure : IfSome m (λ u. Stands bank u)

-- what an event brings stands in the bank; a shell stands under its constructor's name
abbrev pub KindStands : Content → Sym → EntryKind → Type 0
KindStands bank name (kind.Shell shell) = ShellStands bank shell × (name ≡ shell.constructor)
KindStands bank name (kind.Dcl n) = Unit {0}
KindStands bank name (kind.Defn formals body measure) = DefinitionStands bank formals.items body measure
KindStands bank name (kind.Axiom classes t) = Stands bank t
KindStands bank name (kind.Lemma classes t) = Stands bank t
KindStands bank name (kind.Toggle old disabled) = IsNamed bank old

-- the name of the entry, and what it brought, stand in the bank
pub record EntryStands (bank : Content) (e : Entry) : Type 0 where
  pub name : IsNamed bank e.name
  pub kind : KindStands bank e.name e.kind

-- the entries stand in the bank, and begin with the ground history
pub record HistoryStands (bank : Content) (history : List Entry) : Type 0 where
  pub entries : All (EntryStands bank) history
  pub ground : take ground_length (all_events_at bank history) ≡ ground_history

-- the term of an axiom or lemma
abbrev pub kind_term : EntryKind → Option TermId
kind_term (kind.Shell shell) = None
kind_term (kind.Dcl n) = None
kind_term (kind.Defn formals body measure) = None
kind_term (kind.Axiom classes t) = Some t
kind_term (kind.Lemma classes t) = Some t
kind_term (kind.Toggle old disabled) = None
