-- An undo over entries is the logic's undo of an event.
use Rattle.std.proofs.Common.{◌≡◌, ℕ, ◌+◌, ◌-◌, ◌<◌, ◌≤◌, zero, suc, Bool, true, false, List, [], ◌∷◌, ◌++◌, length, take, refl, sym, ap, ◌∙◌, subst, length-append, arith}
use Rattle.std.specs.Prelude.{Option, Some, None, IfSome, Result, is_ok, is_some, is_none, nat_eq, nat_lt, ◌&&◌, All, bytes_eq, if◌then◌else◌}
use Rattle.std.proofs.lemmas.Bool.Decides.{nat_tests}
use Rattle.std.proofs.lemmas.List.{length-map}
use Rattle.nq_logic.specs.Terms.{Name}
use Rattle.nq_logic.specs.Histories.{Event}
use Rattle.nq_logic.specs.Ground.{ground_history, all_events}
use Rattle.nq_logic.specs.Names.{before_event, event_in, event_name}
use Rattle.nq_bank.specs.declared.node.Sym.{Sym}
use Rattle.nq_bank.specs.declared.node.Mark.{Mark}
use Rattle.nq_bank.specs.Content.{Content, Grows, IsNamed, text_at}
use Rattle.nq_bank.specs.Marks.{released}
use Rattle.nq_bank.specs.Soundness.{IsSound}
use Rattle.nq_bank.proofs.NodesLemmas.{All-head, All-tail}
use Rattle.nq_bank.proofs.SoundLemmas.{eqb-symbols}
use Rattle.nq_history.specs.declared.entry.Entry.{Entry}
use Rattle.nq_history.specs.Events.{event_at, all_events_at, events_at, EntryStands, HistoryStands}
use Rattle.nq_history.specs.declared.history.UndoFault.{UndoFault}
use Rattle.nq_history.specs.Lookups.{entries_before, entry_named, undo_answer, undo_fault, undo_result}
use Rattle.nq_history.specs.Marking.{AreMarked}
use Rattle.nq_history.proofs.HistoryLemmas.{events_at-grown}
use Rattle.nq_history.proofs.LookupLemmas.{all_events_are}
use Rattle.nq_logtext.specs.Fields.{name}
use Rattle.nq_log.specs.States.{Undoes, only_when, start_of}
use Rattle.nq_log.specs.Logs.{claimed}
use Rattle.nq_log.specs.ClosingLines.{is_plain, undo_claim}
use Rattle.nq_check.specs.declared.context.Context.{Context}
use Rattle.nq_check.specs.Contexts.{state_of, HasNewNames, IsKept, IsWhole}
use Rattle.nq_check.specs.Judging.{IsClaimed}
use Rattle.nq_check.specs.Texts.{claim_text}
use Rattle.nq_check.proofs.ClaimLemmas.{event_name_of}

-- ---- the events before one of a name

inside : (n : Name) (g h : List Event) (e : Event) → event_in n g ≡ Some e → length (before_event n (g ++ h)) < length g
inside n [] h e found = absurd cc
inside n (x ∷ g) h e found = by_name (bytes_eq n (event_name x)) found (inside n g h e)
  where
    by_name : (b : Bool) → (if b then Some x else event_in n g) ≡ Some e → (event_in n g ≡ Some e → length (before_event n (g ++ h)) < length g) → length (if b then [] else x ∷ before_event n (g ++ h)) < length (x ∷ g)
    by_name true found later = omega arith
    by_name false found later = let below = later found in omega (arith, below)

outside : (n : Name) (g h : List Event) → event_in n g ≡ None → length (before_event n (g ++ h)) ≡ length g + length (before_event n h)
outside n [] h none = omega arith
outside n (x ∷ g) h none = by_name (bytes_eq n (event_name x)) none (outside n g h)
  where
    by_name : (b : Bool) → (if b then Some x else event_in n g) ≡ None → (event_in n g ≡ None → length (before_event n (g ++ h)) ≡ length g + length (before_event n h)) →
        length (if b then [] else x ∷ before_event n (g ++ h)) ≡ length (x ∷ g) + length (before_event n h)
    by_name true none later = absurd cc
    by_name false none later = let same = later none in omega (arith, same)

found_before : (n : Name) (h : List Event) (e : Event) → event_in n h ≡ Some e → length (before_event n h) < length h
found_before n [] e found = absurd cc
found_before n (x ∷ h) e found = by_name (bytes_eq n (event_name x)) found (found_before n h e)
  where
    by_name : (b : Bool) → (if b then Some x else event_in n h) ≡ Some e → (event_in n h ≡ Some e → length (before_event n h) < length h) → length (if b then [] else x ∷ before_event n h) < length (x ∷ h)
    by_name true found later = omega arith
    by_name false found later = let below = later found in omega (arith, below)

all_before : (n : Name) (h : List Event) → event_in n h ≡ None → length (before_event n h) ≡ length h
all_before n [] none = refl
all_before n (x ∷ h) none = by_name (bytes_eq n (event_name x)) none (all_before n h)
  where
    by_name : (b : Bool) → (if b then Some x else event_in n h) ≡ None → (event_in n h ≡ None → length (before_event n h) ≡ length h) → length (if b then [] else x ∷ before_event n h) ≡ length (x ∷ h)
    by_name true none later = absurd cc
    by_name false none later = let same = later none in omega (arith, same)

-- ---- which undo has no fault

pub past_all : (place count : ℕ) → place ≡ count → is_none (undo_fault place count) ≡ false
past_all place count e = grind (arith, nat_tests)

in_ground : (place count : ℕ) → place < 38 → is_none (undo_fault place count) ≡ false
in_ground place count h = by_test (nat_eq place count) (nat_lt place 38) refl
  where
    by_test : (b c : Bool) → nat_lt place 38 ≡ c → is_none (undo_fault place count) ≡ false
    by_test b c e = grind (arith, nat_tests)

at_event : (place count : ℕ) → place < count → 38 ≤ place → is_none (undo_fault place count) ≡ true
at_event place count h k = grind (arith, nat_tests)

-- an undo has no fault where an event past the first 38 has the name, and none of these has the name of one of those
module _ (n : Name) (g h : List Event) (many : length g ≡ 38) (names : (e : Event) → event_in n g ≡ Some e → event_in n h ≡ None) where
  by_past : (o : Option Event) → event_in n g ≡ None → event_in n h ≡ o → is_none (undo_fault (length (before_event n (g ++ h))) (length (g ++ h))) ≡ is_some o
  by_past None none e =
      let place = outside n g h none in
      let same = all_before n h e in
      let count = length-append g h in
      past_all (length (before_event n (g ++ h))) (length (g ++ h)) (omega (arith, place, same, count))
  by_past (Some x) none e =
      let place = outside n g h none in
      let below = found_before n h x e in
      let count = length-append g h in
      at_event (length (before_event n (g ++ h))) (length (g ++ h)) (omega (arith, place, below, count)) (omega (arith, place, many))

  by_ground : (o : Option Event) → event_in n g ≡ o → is_none (undo_fault (length (before_event n (g ++ h))) (length (g ++ h))) ≡ is_some (event_in n h)
  by_ground None none = by_past (event_in n h) none refl
  by_ground (Some x) found =
      let below = inside n g h x found in
      in_ground (length (before_event n (g ++ h))) (length (g ++ h)) (omega (arith, below, many)) ∙ ap is_some (sym (names x found))

  pub no_fault_is : is_none (undo_fault (length (before_event n (g ++ h))) (length (g ++ h))) ≡ is_some (event_in n h)
  no_fault_is = by_ground (event_in n g) refl

none_before : (n m : Name) (k : List Event) → event_in m k ≡ None → event_in m (before_event n k) ≡ None
none_before n m [] none = refl
none_before n m (x ∷ k) none = by_names (bytes_eq n (event_name x)) (bytes_eq m (event_name x)) refl none (none_before n m k)
  where
    by_names : (b c : Bool) → bytes_eq m (event_name x) ≡ c → (if c then Some x else event_in m k) ≡ None → (event_in m k ≡ None → event_in m (before_event n k) ≡ None) → event_in m (if b then [] else x ∷ before_event n k) ≡ None
    by_names true c e none later = refl
    by_names false true e none later = absurd cc
    by_names false false e none later = ap (λ b. if b then Some x else event_in m (before_event n k)) e ∙ later none

pub names_before : (n : Name) (h : List Event) → HasNewNames h → HasNewNames (before_event n h)
names_before n h names = record { new = λ m e found. none_before n m h (names.new m e found) }

-- ---- over entries

count_before : (bank : Content) (s : Sym) (entries : List Entry) → IsSound bank → IsNamed bank s → All (EntryStands bank) entries → length (entries_before s entries) ≡ length (before_event (text_at bank s) (all_events_at bank entries))
count_before bank s [] sound named stand = refl
count_before bank s (e ∷ entries) sound named stand =
    let here = All-head (EntryStands bank) e entries stand in
    by_names (nat_eq s.0 e.name.0) (bytes_eq (text_at bank s) (event_name (event_at bank e)))
    (eqb-symbols bank s e.name sound named here.name ∙ ap (bytes_eq (text_at bank s)) (sym (event_name_of bank e.name e.kind here.kind)))
    (count_before bank s entries sound named (All-tail (EntryStands bank) e entries stand))
  where
    by_names : (b c : Bool) → b ≡ c → length (entries_before s entries) ≡ length (before_event (text_at bank s) (all_events_at bank entries)) →
        length (if b then [] else e ∷ entries_before s entries) ≡ length (if c then [] else event_at bank e ∷ before_event (text_at bank s) (all_events_at bank entries))
    by_names true true same later = refl
    by_names true false same later = absurd cc
    by_names false true same later = absurd cc
    by_names false false same later = omega (arith, later)

pub fault_is : (bank : Content) (s : Sym) (history : List Entry) → IsSound bank → IsNamed bank s → HistoryStands bank history → HasNewNames (events_at bank history) →
    is_none (undo_fault (length (entries_before s history)) (length history)) ≡ is_some (event_in (text_at bank s) (events_at bank history))
fault_is bank s history sound named stands names =
    let all = all_events_are bank history stands in
    let place = count_before bank s history sound named stands.entries ∙ ap (λ (es : List Event). length (before_event (text_at bank s) es)) (sym all) in
    let count = sym (length-map history (event_at bank)) ∙ ap length (sym all) in
    ap (λ n. is_none (undo_fault n (length history))) place ∙ ap (λ n. is_none (undo_fault (length (before_event (text_at bank s) (all_events (events_at bank history)))) n)) count
    ∙ no_fault_is (text_at bank s) ground_history (events_at bank history) refl (λ e found. names.new (text_at bank s) e found)

-- a name without an entry has all of them before it
pub none_named : (s : Sym) (entries : List Entry) → entry_named s entries ≡ None → length (entries_before s entries) ≡ length entries
none_named s [] none = refl
none_named s (e ∷ entries) none = by_name (nat_eq s.0 e.name.0) none (none_named s entries)
  where
    by_name : (b : Bool) → (if b then Some e else entry_named s entries) ≡ None → (entry_named s entries ≡ None → length (entries_before s entries) ≡ length entries) → length (if b then [] else e ∷ entries_before s entries) ≡ length (e ∷ entries)
    by_name true none later = absurd cc
    by_name false none later = let same = later none in omega (arith, same)

front : {X : Type 0} (xs : List X) (n : ℕ) → take (length (take n xs)) xs ≡ take n xs
front [] zero = refl
front [] (suc n) = refl
front (x ∷ xs) zero = refl
front {X = X} (x ∷ xs) (suc n) = ap (λ (rest : List X). x ∷ rest) (front xs n)

-- a bank that was rolled back grows to what it was
pub released_grows : (bank : Content) (m : Mark) → Grows (released bank m) bank
released_grows bank m = record { names = front bank.names m.names; terms = front bank.terms m.nodes }

-- ---- what an undo leaves

by_fault : (o : Option UndoFault) (k : ℕ) (r : Result ℕ UndoFault) → r ≡ undo_result o k → is_ok r ≡ is_none o
by_fault None k r e = ap is_ok e
by_fault (Some fault) k r e = ap is_ok e

-- whether the undo is Ok is whether an event past the ground history has the name
pub undo_is : (bank : Content) (s : Sym) (history : List Entry) (r : Result ℕ UndoFault) → IsSound bank → IsNamed bank s → HistoryStands bank history → HasNewNames (events_at bank history) →
    r ≡ undo_answer (length (entries_before s history)) (length history) → is_ok r ≡ is_some (event_in (text_at bank s) (events_at bank history))
undo_is bank s history r sound named stands names told =
    by_fault (undo_fault (length (entries_before s history)) (length history)) (length history - length (entries_before s history)) r told ∙ fault_is bank s history sound named stands names

-- the bank that is left grows to the one before
left_grows : (old new : Content) (s : Sym) (history : List Entry) (r : Result ℕ UndoFault) (o : Option Entry) → entry_named s history ≡ o → is_ok r ≡ true → r ≡ undo_answer (length (entries_before s history)) (length history) →
    IfSome o (λ e. new ≡ released old e.mark) → Grows new old
left_grows old new s history r None none ok told left =
    let place = none_named s history none in
    let fault = past_all (length (entries_before s history)) (length history) place in
    let same = by_fault (undo_fault (length (entries_before s history)) (length history)) (length history - length (entries_before s history)) r told in
    absurd cc
left_grows old new s history r (Some e) found ok told left = subst (λ (b : Content). Grows b old) (sym left) (released_grows old e.mark)

pub undo_claimed : (old new : Context) (bank : Content) (history : List Entry) (s : Sym) (r : Result ℕ UndoFault) (text : List ℕ) → IsSound old.bank → IsWhole old → IsNamed old.bank s → is_plain (state_of old).block ≡ true →
    is_ok r ≡ true → r ≡ undo_answer (length (entries_before s old.history)) (length old.history) → IfSome (entry_named s old.history) (λ e. bank ≡ released old.bank e.mark) →
    events_at old.bank history ≡ before_event (text_at old.bank s) (events_at old.bank old.history) → AreMarked bank history → HistoryStands bank history →
    (IsKept bank history → IsWhole new) → state_of new ≡ start_of (events_at bank history) → text ≡ claim_text (Undoes (text_at old.bank s)) ++ (10 ∷ []) →
    IsClaimed (state_of old) (claimed (undo_claim (state_of old) (name (text_at old.bank s) ∷ []))) text new
undo_claimed old new bank history s r text sound whole named plain ok told left events marks stands begun state shown =
    let n = text_at old.bank s in
    let h = events_at old.bank old.history in
    let grows = left_grows old.bank bank s old.history r (entry_named s old.history) refl ok told left in
    let left_events = sym (events_at-grown bank old.bank grows history stands.entries) ∙ events in
    let event = sym (undo_is old.bank s old.history r sound named whole.history.stands whole.history.names told) ∙ ok in
    record {
      claim = Undoes n;
      whole = begun (record { stands = stands; marks = marks; names = subst HasNewNames (sym left_events) (names_before n h whole.history.names) });
      step = ap (λ b. claimed (only_when (b && is_some (event_in n h)) (Undoes n))) plain ∙ ap (λ b. claimed (only_when b (Undoes n))) event;
      state = state ∙ ap (λ (h : List Event). start_of h) left_events;
      text_is = shown;
    }

pub undo_denied : (old : Context) (s : Sym) (r : Result ℕ UndoFault) → IsSound old.bank → IsWhole old → IsNamed old.bank s → is_ok r ≡ false → r ≡ undo_answer (length (entries_before s old.history)) (length old.history) →
    claimed (undo_claim (state_of old) (name (text_at old.bank s) ∷ [])) ≡ None
undo_denied old s r sound whole named err told =
    let event = sym (undo_is old.bank s old.history r sound named whole.history.stands whole.history.names told) ∙ err in
    ap (λ b. claimed (only_when (is_plain (state_of old).block && b) (Undoes (text_at old.bank s)))) event ∙ nothing (is_plain (state_of old).block)
  where
    nothing : (b : Bool) → claimed (only_when (b && false) (Undoes (text_at old.bank s))) ≡ None
    nothing true = refl
    nothing false = refl
