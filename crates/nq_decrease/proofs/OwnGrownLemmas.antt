-- What is known of shells and terms, as the work grows.
use Rattle.std.proofs.Common.{◌≡◌, ◌<◌, ℕ, suc, false, Some, List, [], ◌∷◌, length, refl, sym, subst}
use Rattle.std.proofs.lemmas.List.{length-map}
use Rattle.std.proofs.lemmas.Option.{slice_get_within}
use Rattle.std.specs.Prelude.{bytes_eq, codes, slice_get}
use Rattle.nq_logic.specs.Terms.{Each}
use Rattle.nq_logic.specs.Histories.{History, Part, Shell}
use Rattle.nq_bank.specs.declared.node.TermId.{TermId}
use Rattle.nq_bank.specs.declared.shell.Shell.{Shell as BankShell}
use Rattle.nq_bank.specs.Content.{Content}
use Rattle.nq_bank.specs.Shells.{ShellStands, part_at, shell_at}
use Rattle.nq_history.specs.declared.entry.Entry.{Entry}
use Rattle.nq_history.specs.Events.{events_at}
use Rattle.nq_history.proofs.HistoryLemmas.{events_at-grown}
use Rattle.nq_history.proofs.ShellLemmas.{shell_at-grown}
use Rattle.nq_kernel.specs.declared.work.Work.{Work}
use Rattle.nq_kernel.specs.Growing.{WorkStands, WorkGrows}
use Rattle.nq_kernel.specs.Ready.{IsReady}
use Rattle.nq_lines.proofs.TermLemmas.{term_grown}
use Rattle.nq_part_lines.specs.Known.{HasKnownRows, IsKnownShell}
use Rattle.nq_part_lines.specs.Small.{IsSmallIn}
use Rattle.nq_part_lines.proofs.GrownLemmas.{room_grown}

-- a shell over a bank has as many parts
pub place_within : (bank : Content) (shell : BankShell) (k : ℕ) → k < length shell.parts.items → k < length (shell_at bank shell).parts
place_within bank shell k h = subst (λ n. k < n) (sym (length-map shell.parts.items (part_at bank))) h

pub place_under : (bank : Content) (shell : BankShell) (k : ℕ) (part : Part) → slice_get (shell_at bank shell).parts k ≡ Some part → k < length shell.parts.items
place_under bank shell k part at = subst (λ n. k < n) (length-map shell.parts.items (part_at bank)) (slice_get_within (shell_at bank shell).parts k part at)

-- no accessor of a known shell is ADD1
pub no_successors : (h : History) (s : Shell) → IsKnownShell h s → Each (λ part. bytes_eq part.accessor (codes "ADD1") ≡ false) s.parts
no_successors h s known = each_place s.parts (λ k part at. (known.parts k part at).other)
  where
    each_place : (parts : List Part) → ((k : ℕ) (part : Part) → slice_get parts k ≡ Some part → bytes_eq part.accessor (codes "ADD1") ≡ false) → Each (λ part. bytes_eq part.accessor (codes "ADD1") ≡ false) parts
    each_place [] f = tt
    each_place (p ∷ parts) f = (f 0 p refl, each_place parts (λ k part at. f (suc k) part at))

module _ (history : List Entry) (old new : Work) (grows : WorkGrows history old new) where
  pub same_shell : (shell : BankShell) → ShellStands old.bank shell → shell_at new.bank shell ≡ shell_at old.bank shell
  same_shell shell named = shell_at-grown old.bank new.bank grows.bank shell named

  module _ (stands : WorkStands history old) where
    pub same_events : events_at new.bank history ≡ events_at old.bank history
    same_events = events_at-grown old.bank new.bank grows.bank history stands.history.entries

    pub ready_grown : IsReady (events_at old.bank history) → IsReady (events_at new.bank history)
    ready_grown ready = subst IsReady (sym same_events) ready

    pub rows_grown : HasKnownRows (events_at old.bank history) → HasKnownRows (events_at new.bank history)
    rows_grown rows = subst HasKnownRows (sym same_events) rows

    pub known_since : (s : Shell) → IsKnownShell (events_at old.bank history) s → IsKnownShell (events_at new.bank history) s
    known_since s known = subst (λ h. IsKnownShell h s) (sym same_events) known

    pub known_grown : (shell : BankShell) → ShellStands old.bank shell → IsKnownShell (events_at old.bank history) (shell_at old.bank shell) → IsKnownShell (events_at new.bank history) (shell_at new.bank shell)
    known_grown shell named known = subst (IsKnownShell (events_at new.bank history)) (sym (same_shell shell named)) (known_since (shell_at old.bank shell) known)

    pub small_grown : (t : TermId) → IsSmallIn history old t → IsSmallIn history new t
    small_grown t k = record { inside = term_grown history old new t stands grows k.inside; room = room_grown history old new grows t k.inside k.room }
