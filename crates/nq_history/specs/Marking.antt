-- Marks of entries: each was taken just before its event.
use Rattle.std.specs.Prelude.{◌≡◌, ℕ, ◌<◌, ◌≤◌, List, [], ◌∷◌, length, get_or, take, All}
use Rattle.nq_bank.specs.Content.{Content, Grows}
use Rattle.nq_bank.specs.Marks.{IsMarkOf, released}
use Rattle.nq_history.specs.declared.entry.Entry.{Entry}
use Rattle.nq_history.specs.Events.{EntryStands}

-- the entry stands in the bank, and its mark lies within it
pub record IsWithin (bank : Content) (e : Entry) : Type 0 where
  pub entry : EntryStands bank e
  pub nodes : e.mark.nodes ≤ length bank.terms
  pub names : e.mark.names ≤ length bank.names

-- the mark was taken of an earlier bank, which held the entries before this one, and has grown since
pub record IsMarked (bank : Content) (before : List Entry) (e : Entry) : Type 0 where
  pub earlier : Content
  pub mark : IsMarkOf earlier e.mark
  pub grew : Grows earlier bank
  pub held : All (IsWithin earlier) before

-- each entry keeps the mark that stood just before its event
pub record AreMarked (bank : Content) (history : List Entry) : Type 0 where
  pub each : (i : ℕ) (e : Entry) → i < length history → e ≡ get_or history i e → IsMarked bank (take i history) e

-- What is left of a bank when these events are undone: what it held below the mark of the first of them, or all where there is none.
abbrev pub given_back : Content → List Entry → Content
given_back bank [] = bank
given_back bank (e ∷ entries) = released bank e.mark
