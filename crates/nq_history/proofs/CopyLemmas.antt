-- Copies of the shells of entries: one more, a front of them, and what they mean over a bank.
use Rattle.std.proofs.Common.{◌≡◌, ◌<◌, ◌+◌, ℕ, zero, suc, List, [], ◌∷◌, ◌++◌, Option, Some, None, length, get_or, take, drop, map, append_assoc, refl, sym, ap, ◌∙◌, length-append, take-append-drop}
use Rattle.std.specs.Prelude.{All, option_to_list}
use Rattle.std.proofs.Math.Seq.{take-append_seam}
use Rattle.std.proofs.lemmas.List.{map-append, take_more}
use Rattle.std.proofs.lemmas.List.Elements.{All-append}
use Rattle.nq_logic.specs.Histories.{event_shells, events_shells}
use Rattle.nq_bank.specs.declared.node.Sym.{Sym}
use Rattle.nq_bank.specs.declared.shell.Shell.{Shell}
use Rattle.nq_bank.specs.Content.{Content}
use Rattle.nq_bank.specs.Shells.{shell_at, shells_at, ShellStands}
use Rattle.nq_bank.proofs.NodesLemmas.{All-head, All-tail}
use Rattle.nq_history.specs.declared.entry.EntryKind.{EntryKind}
use Rattle.nq_history.specs.declared.entry.EntryKind.TheVariants as kind
use Rattle.nq_history.specs.declared.entry.Entry.{Entry}
use Rattle.nq_history.specs.Events.{event_of, event_at, all_events_at, KindStands, EntryStands}
use Rattle.nq_history.specs.ShellLists.{kind_shell, entry_shells, shells_brought, AreCopies, IsShellCopy, Pairwise}
use Rattle.nq_history.proofs.Lists.{All-none, All-cons}

-- lists whose elements are related place by place
module _ {X : Type 0} (R : X → X → Type 0) where
  pub pairwise_push : (xs ys : List X) (x y : X) → Pairwise R xs ys → R x y → Pairwise R (xs ++ x ∷ []) (ys ++ y ∷ [])
  pairwise_push [] [] x y h r = (r, tt)
  pairwise_push [] (b ∷ ys) x y h r = absurd h
  pairwise_push (a ∷ xs) [] x y h r = absurd h
  pairwise_push (a ∷ xs) (b ∷ ys) x y h r = (h.0, pairwise_push xs ys x y h.1 r)

  pub pairwise_take : (n : ℕ) (xs ys : List X) → Pairwise R xs ys → Pairwise R (take n xs) (take n ys)
  pairwise_take zero xs ys h = tt
  pairwise_take (suc n) [] [] h = tt
  pairwise_take (suc n) [] (b ∷ ys) h = absurd h
  pairwise_take (suc n) (a ∷ xs) [] h = absurd h
  pairwise_take (suc n) (a ∷ xs) (b ∷ ys) h = (h.0, pairwise_take n xs ys h.1)

  -- what is the same of related elements is the same of the lists
  pub pairwise_map : {Y : Type 0} (f : X → Y) → ((x y : X) → R x y → f y ≡ f x) → (xs ys : List X) → Pairwise R xs ys → map f ys ≡ map f xs
  pairwise_map f same [] [] h = refl
  pairwise_map f same [] (b ∷ ys) h = absurd h
  pairwise_map f same (a ∷ xs) [] h = absurd h
  pairwise_map f same (a ∷ xs) (b ∷ ys) h = ap (λ z. z ∷ map f ys) (same a b h.0) ∙ ap (λ zs. f a ∷ zs) (pairwise_map f same xs ys h.1)

  -- what holds of each element holds of those related to them
  pub pairwise_all : (P : X → Type 0) → ((x y : X) → R x y → P x → P y) → (xs ys : List X) → Pairwise R xs ys → All P xs → All P ys
  pairwise_all P holds [] [] h k = All-none P
  pairwise_all P holds [] (b ∷ ys) h k = absurd h
  pairwise_all P holds (a ∷ xs) [] h k = absurd h
  pairwise_all P holds (a ∷ xs) (b ∷ ys) h k = All-cons P b ys (holds a b h.0 (All-head P a xs k)) (pairwise_all P holds xs ys h.1 (All-tail P a xs k))

-- copies of shells are the same over a bank, and stand where the shells do
pub copies_same : (bank : Content) (shells copies : List Shell) → AreCopies shells copies → shells_at bank copies ≡ shells_at bank shells
copies_same bank shells copies h = pairwise_map IsShellCopy (shell_at bank) (λ s c is. is.same bank) shells copies h

pub copies_stand : (bank : Content) (shells copies : List Shell) → AreCopies shells copies → All (ShellStands bank) shells → All (ShellStands bank) copies
copies_stand bank shells copies h k = pairwise_all IsShellCopy (ShellStands bank) (λ s c is. is.stands bank) shells copies h k

-- the shells of entries that are joined
pub shells_append : (xs ys : List Entry) → shells_brought (xs ++ ys) ≡ shells_brought xs ++ shells_brought ys
shells_append [] ys = refl
shells_append (e ∷ xs) ys = ap (λ ss. entry_shells e ++ ss) (shells_append xs ys) ∙ sym (append_assoc (entry_shells e) (shells_brought xs) (shells_brought ys))

pub shells_push : (xs : List Entry) (e : Entry) → shells_brought (xs ++ e ∷ []) ≡ shells_brought xs ++ entry_shells e
shells_push xs e = shells_append xs (e ∷ []) ∙ ap (λ ss. shells_brought xs ++ ss) (nothing_behind (kind_shell e.kind))
  where
    nothing_behind : (o : Option Shell) → option_to_list o ++ [] ≡ option_to_list o
    nothing_behind None = refl
    nothing_behind (Some s) = refl

-- the shells of a front of entries are a front of the shells of all
pub shells_front : (entries : List Entry) (n : ℕ) → take (length (shells_brought (take n entries))) (shells_brought entries) ≡ shells_brought (take n entries)
shells_front entries n =
    ap (take (length (shells_brought (take n entries)))) (ap shells_brought (sym (take-append-drop n entries)) ∙ shells_append (take n entries) (drop n entries)) ∙
    take-append_seam (shells_brought (take n entries)) (shells_brought (drop n entries))

-- one more entry brings so many more shells
pub shells_counted : (es : List Entry) (i : ℕ) (e : Entry) → i < length es → e ≡ get_or es i e → length (shells_brought (take (i + 1) es)) ≡ length (shells_brought (take i es)) + length (entry_shells e)
shells_counted es i e below is =
    ap (λ xs. length (shells_brought xs)) (take_more es i e below ∙ ap (λ x. take i es ++ x ∷ []) (sym is)) ∙
    ap length (shells_push (take i es) e) ∙
    length-append (shells_brought (take i es)) (entry_shells e)

-- they are the shells that the events add
module _ (bank : Content) where
  kind_is : (name : Sym) (k : EntryKind) → shells_at bank (option_to_list (kind_shell k)) ≡ event_shells (event_of bank name k)
  kind_is name (kind.Shell shell) = refl
  kind_is name (kind.Dcl n) = refl
  kind_is name (kind.Defn formals body measure) = refl
  kind_is name (kind.Axiom classes t) = refl
  kind_is name (kind.Lemma classes t) = refl
  kind_is name (kind.Toggle old disabled) = refl

  pub shells_are : (entries : List Entry) → shells_at bank (shells_brought entries) ≡ events_shells (all_events_at bank entries)
  shells_are [] = refl
  shells_are (e ∷ entries) =
      map-append (shell_at bank) (entry_shells e) (shells_brought entries) ∙
      ap (λ ss. ss ++ shells_at bank (shells_brought entries)) (kind_is e.name e.kind) ∙
      ap (λ ss. event_shells (event_at bank e) ++ ss) (shells_are entries)

  kind_stands : (name : Sym) (k : EntryKind) → KindStands bank name k → All (ShellStands bank) (option_to_list (kind_shell k))
  kind_stands name (kind.Shell shell) h = All-cons (ShellStands bank) shell [] h.0 (All-none (ShellStands bank))
  kind_stands name (kind.Dcl n) h = All-none (ShellStands bank)
  kind_stands name (kind.Defn formals body measure) h = All-none (ShellStands bank)
  kind_stands name (kind.Axiom classes t) h = All-none (ShellStands bank)
  kind_stands name (kind.Lemma classes t) h = All-none (ShellStands bank)
  kind_stands name (kind.Toggle old disabled) h = All-none (ShellStands bank)

  pub shells_stand : (entries : List Entry) → All (EntryStands bank) entries → All (ShellStands bank) (shells_brought entries)
  shells_stand [] h = All-none (ShellStands bank)
  shells_stand (e ∷ entries) h =
      let here : EntryStands bank e = All-head (EntryStands bank) e entries h in
      All-append (ShellStands bank) (entry_shells e) (shells_brought entries) (kind_stands e.name e.kind here.kind) (shells_stand entries (All-tail (EntryStands bank) e entries h))
