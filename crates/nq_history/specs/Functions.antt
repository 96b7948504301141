-- The functions that entries bring, over ids, and the index of entries.
use Rattle.std.specs.Prelude.{◌≡◌, ℕ, nat_eq, if◌then◌else◌, List, [], ◌∷◌, ◌++◌, length, map, take, Option, Some, None}
use Rattle.nq_logic.specs.Terms.{Symbol}
use Rattle.nq_bank.specs.Content.{Content, text_at}
use Rattle.nq_bank.specs.declared.node.Sym.{Sym}
use Rattle.nq_bank.specs.declared.shell.Part.{Part}
use Rattle.nq_bank.specs.declared.shell.Shell.{Shell}
use Rattle.nq_history.specs.declared.entry.EntryKind.{EntryKind}
use Rattle.nq_history.specs.declared.entry.EntryKind.TheVariants as kind
use Rattle.nq_history.specs.declared.entry.Entry.{Entry}
use Rattle.nq_history.specs.declared.index.Index.{Index}
use Rattle.nq_history.specs.ShellLists.{entry_shells, shells_brought, AddsCopies, AreCopies}

-- a function of no argument, if there is one
abbrev pub base_functions : Option Sym → List (Sym × ℕ)
base_functions None = []
base_functions (Some s) = (s, 0) ∷ []

abbrev pub accessor_functions : List Part → List (Sym × ℕ)
accessor_functions parts = map (λ part. (part.accessor, 1)) parts

abbrev pub shell_functions : Shell → List (Sym × ℕ)
shell_functions s =
    (s.constructor, length s.parts.items) ∷ (base_functions s.base ++ ((s.recognizer, 1) ∷ accessor_functions s.parts.items))

-- the functions that an event of this name brings, with their numbers of arguments
abbrev pub kind_functions : Sym → EntryKind → List (Sym × ℕ)
kind_functions name (kind.Shell shell) = shell_functions shell
kind_functions name (kind.Dcl n) = (name, n) ∷ []
kind_functions name (kind.Defn formals body measure) = (name, length formals.items) ∷ []
kind_functions name (kind.Axiom classes t) = []
kind_functions name (kind.Lemma classes t) = []
kind_functions name (kind.Toggle old disabled) = []

abbrev pub entry_functions : Entry → List (Sym × ℕ)
entry_functions e = kind_functions e.name e.kind

-- the functions that the entries bring, those of the oldest first
abbrev pub functions_of : List Entry → List (Sym × ℕ)
functions_of [] = []
functions_of (e ∷ entries) = entry_functions e ++ functions_of entries

-- the logic's function
abbrev pub symbol_at : Content → Sym × ℕ → Symbol
symbol_at bank f = (text_at bank f.0, f.1)

-- the number of arguments of the first of these functions that has this name
abbrev pub arity_among : Sym → List (Sym × ℕ) → Option ℕ
arity_among name [] = None
arity_among name (f ∷ functions) = if nat_eq name.0 f.0.0 then Some f.1 else arity_among name functions

-- what the index of these entries holds: the names of the events, the functions with their numbers of arguments, and the shells
pub record IsIndexOf (entries : List Entry) (index : Index) : Type 0 where
  pub events : index.events ≡ map (λ e. e.name) entries
  pub functions : index.functions ≡ map (λ f. f.0) (functions_of entries)
  pub arities : index.arities.items ≡ map (λ f. f.1) (functions_of entries)
  pub shells : AreCopies (shells_brought entries) index.shells.items

-- the index begins with what it held
pub record BeginsWith (old new : Index) : Type 0 where
  pub events : take (length old.events) new.events ≡ old.events
  pub functions : take (length old.functions) new.functions ≡ old.functions
  pub arities : take (length old.arities.items) new.arities.items ≡ old.arities.items
  pub shells : take (length old.shells.items) new.shells.items ≡ old.shells.items

-- what one more entry brings stands at the end
pub record HasAdded (e : Entry) (old new : Index) : Type 0 where
  pub events : new.events ≡ old.events ++ e.name ∷ []
  pub functions : new.functions ≡ old.functions ++ map (λ f. f.0) (entry_functions e)
  pub arities : new.arities.items ≡ old.arities.items ++ map (λ f. f.1) (entry_functions e)
  pub shells : AddsCopies (entry_shells e) old.shells.items new.shells.items
