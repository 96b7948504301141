-- The shells that entries bring, and copies of shells.
use Rattle.std.specs.Prelude.{◌≡◌, List, [], ◌∷◌, ◌++◌, Option, Some, None, option_to_list}
use Rattle.nq_bank.specs.Content.{Content}
use Rattle.nq_bank.specs.Shells.{part_at, shell_at, PartStands, ShellStands}
use Rattle.nq_bank.specs.declared.shell.Part.{Part}
use Rattle.nq_bank.specs.declared.shell.Shell.{Shell}
use Rattle.nq_history.specs.declared.entry.EntryKind.{EntryKind}
use Rattle.nq_history.specs.declared.entry.EntryKind.TheVariants as kind
use Rattle.nq_history.specs.declared.entry.Entry.{Entry}

-- the shell that an event brings, if it brings one
abbrev pub kind_shell : EntryKind → Option Shell
kind_shell (kind.Shell shell) = Some shell
kind_shell (kind.Dcl n) = None
kind_shell (kind.Defn formals body measure) = None
kind_shell (kind.Axiom classes t) = None
kind_shell (kind.Lemma classes t) = None
kind_shell (kind.Toggle old disabled) = None

abbrev pub entry_shells : Entry → List Shell
entry_shells e = option_to_list (kind_shell e.kind)

-- the shells that the entries bring, those of the oldest first
abbrev pub shells_brought : List Entry → List Shell
shells_brought [] = []
shells_brought (e ∷ entries) = entry_shells e ++ shells_brought entries

-- the elements of two lists, place by place, are related, and none is left over
abbrev pub Pairwise : {X : Type 0} → (X → X → Type 0) → List X → List X → Type 0
Pairwise R [] [] = Unit {0}
Pairwise R [] (y ∷ ys) = ⊥
Pairwise R (x ∷ xs) [] = ⊥
Pairwise R (x ∷ xs) (y ∷ ys) = R x y × Pairwise R xs ys

-- over each bank the copy is the same part, and it stands where the part does
pub record IsPartCopy (part copy : Part) : Type 0 where
  pub same : (bank : Content) → part_at bank copy ≡ part_at bank part
  pub stands : (bank : Content) → PartStands bank part → PartStands bank copy

-- over each bank the copy is the same shell, and it stands where the shell does
pub record IsShellCopy (shell copy : Shell) : Type 0 where
  pub same : (bank : Content) → shell_at bank copy ≡ shell_at bank shell
  pub stands : (bank : Content) → ShellStands bank shell → ShellStands bank copy

-- each shell has its copy in the list
abbrev pub AreCopies : List Shell → List Shell → Type 0
AreCopies shells copies = Pairwise IsShellCopy shells copies

-- copies of these shells stand behind those that stood before
abbrev pub AddsCopies : List Shell → List Shell → List Shell → Type 0
AddsCopies more old new = (shells : List Shell) → AreCopies shells old → AreCopies (shells ++ more) new
