-- What is looked for among entries is what the logic looks for among events.
use Rattle.std.proofs.Common.{◌≡◌, ◌+◌, ◌<◌, ◌≤◌, ℕ, zero, suc, not, Bool, true, false, ◌||◌, ◌++◌, List, [], ◌∷◌, Option, Some, None, length, get_or, take, drop, map, refl, sym, ap, ◌∙◌, arith}
use Rattle.std.specs.Prelude.{All, IfSome, bytes_eq, nat_eq, nat_lt, if◌then◌else◌}
use Rattle.std.specs.Option.{option_map}
use Rattle.std.proofs.lemmas.List.{take-append-drop, take-append-le, drop-append-le, drop-map, length-map, map_push}
use Rattle.nq_logic.specs.Terms.{Name}
use Rattle.nq_logic.specs.Histories.{Event}
use Rattle.nq_logic.specs.Ground.{ground_history, all_events}
use Rattle.nq_logic.specs.Names.{event_name, events_names, event_in, has_name, looked_up, before_event, enabled_after, is_enabled}
use Rattle.nq_bank.specs.declared.node.Sym.{Sym}
use Rattle.nq_bank.specs.Content.{Content, IsNamed, text_at}
use Rattle.nq_bank.specs.Soundness.{IsSound}
use Rattle.nq_bank.proofs.NodesLemmas.{All-head, All-tail}
use Rattle.nq_bank.proofs.Growth.{prefix_within}
use Rattle.nq_bank.proofs.SoundLemmas.{eqb-symbols}
use Rattle.nq_bank.proofs.Standing.{All-push}
use Rattle.nq_history.specs.declared.entry.EntryKind.{EntryKind}
use Rattle.nq_history.specs.declared.entry.EntryKind.TheVariants as kind
use Rattle.nq_history.specs.declared.entry.Entry.{Entry}
use Rattle.nq_history.specs.Events.{event_of, event_at, all_events_at, events_at, past_ground, ground_length, KindStands, EntryStands, HistoryStands}
use Rattle.nq_history.specs.Lookups.{entry_named, kind_enabled, enabled_in, entries_before, undo_fault}
use Rattle.nq_history.specs.Places.{place_in}
use Rattle.nq_history.specs.declared.history.UndoFault.TheVariants.{NoSuchEvent, GroundEvent}
use Rattle.std.proofs.lemmas.Bool.{eqb-false, ltb-true, ltb-false}

-- the event of an entry has the entry's name
pub event_name_of : (bank : Content) (name : Sym) (k : EntryKind) → KindStands bank name k → event_name (event_of bank name k) ≡ text_at bank name
event_name_of bank name (kind.Shell shell) h = ap (text_at bank) (sym h.1)
event_name_of bank name (kind.Dcl n) h = refl
event_name_of bank name (kind.Defn formals body measure) h = refl
event_name_of bank name (kind.Axiom classes t) h = refl
event_name_of bank name (kind.Lemma classes t) h = refl
event_name_of bank name (kind.Toggle old disabled) h = refl

-- the ground history and the events past it are all events
pub all_events_are : (bank : Content) (history : List Entry) → HistoryStands bank history → all_events (events_at bank history) ≡ all_events_at bank history
all_events_are bank history h =
    ap (λ es. es ++ events_at bank history) (sym h.ground) ∙
    ap (λ es. take ground_length (all_events_at bank history) ++ es) (sym (drop-map (event_at bank) ground_length history)) ∙
    take-append-drop ground_length (all_events_at bank history)

same_name : (bank : Content) (name : Sym) (e : Entry) → IsSound bank → IsNamed bank name → EntryStands bank e → nat_eq name.0 e.name.0 ≡ bytes_eq (text_at bank name) (event_name (event_at bank e))
same_name bank name e sound named h =
    eqb-symbols bank name e.name sound named h.name ∙ ap (bytes_eq (text_at bank name)) (sym (event_name_of bank e.name e.kind h.kind))

chosen : (bank : Content) (name : Sym) (e : Entry) (rest : Option Entry) (others : Option Event) (b c : Bool) → b ≡ c → option_map (event_at bank) rest ≡ others → option_map (event_at bank) (if b then Some e else rest) ≡ (if c then Some (event_at bank e) else others)
chosen bank name e rest others true true same h = refl
chosen bank name e rest others true false same h = cc
chosen bank name e rest others false true same h = cc
chosen bank name e rest others false false same h = h

named_in : (bank : Content) (name : Sym) (entries : List Entry) → IsSound bank → IsNamed bank name → All (EntryStands bank) entries → option_map (event_at bank) (entry_named name entries) ≡ event_in (text_at bank name) (all_events_at bank entries)
named_in bank name [] sound named h = refl
named_in bank name (e ∷ entries) sound named h =
    chosen bank name e (entry_named name entries) (event_in (text_at bank name) (all_events_at bank entries)) (nat_eq name.0 e.name.0) (bytes_eq (text_at bank name) (event_name (event_at bank e)))
    (same_name bank name e sound named (All-head (EntryStands bank) e entries h))
    (named_in bank name entries sound named (All-tail (EntryStands bank) e entries h))

pub named_event : (bank : Content) (name : Sym) (history : List Entry) → IsSound bank → IsNamed bank name → HistoryStands bank history → option_map (event_at bank) (entry_named name history) ≡ looked_up (text_at bank name) (events_at bank history)
named_event bank name history sound named h =
    named_in bank name history sound named h.entries ∙ ap (event_in (text_at bank name)) (sym (all_events_are bank history h))

-- a name among those of two lists
or_assoc : (a b c : Bool) → (a || (b || c)) ≡ ((a || b) || c)
or_assoc true b c = refl
or_assoc false b c = refl

pub has_name-append : (x : Name) (ys zs : List Name) → has_name x (ys ++ zs) ≡ (has_name x ys || has_name x zs)
has_name-append x [] zs = refl
has_name-append x (y ∷ ys) zs = ap (λ b. bytes_eq x y || b) (has_name-append x ys zs) ∙ or_assoc (bytes_eq x y) (has_name x ys) (has_name x zs)

-- one of two tests tells alone where the other fails
pub once : (b : Bool) → b ≡ (b || false)
once true = refl
once false = refl

pub or_false : (a b : Bool) → a ≡ false → (a || b) ≡ b
or_false true b h = cc
or_false false b h = refl

-- a history that an entry was added to
module _ (bank : Content) (history : List Entry) (e : Entry) (h : HistoryStands bank history) (k : EntryStands bank e) where
  long_enough : ground_length < length history + 1
  long_enough =
      let within = prefix_within ground_history (all_events_at bank history) h.ground in
      let size = length-map history (event_at bank) in
      omega (arith, within, size)

  pub push_stands : HistoryStands bank (history ++ e ∷ [])
  push_stands =
      let size = length-map history (event_at bank) in
      let long = long_enough in
      record {
        entries = All-push (EntryStands bank) history e h.entries k;
        ground =
            ap (take ground_length) (map_push (event_at bank) history e) ∙
            take-append-le ground_length (all_events_at bank history) (event_at bank e ∷ []) (omega (arith, long, size)) ∙
            h.ground;
      }

  pub push_event : events_at bank (history ++ e ∷ []) ≡ events_at bank history ++ event_at bank e ∷ []
  push_event =
      let long = long_enough in
      ap (map (event_at bank)) (drop-append-le ground_length history (e ∷ []) (omega (arith, long))) ∙ map_push (event_at bank) (past_ground history) e

-- the names that a history uses
pub used_is : (bank : Content) (x : Name) (history : List Entry) → HistoryStands bank history → has_name x (events_names (all_events_at bank history)) ≡ has_name x (events_names (all_events (events_at bank history)))
used_is bank x history h = ap (λ es. has_name x (events_names es)) (sym (all_events_are bank history h))

-- enabled over ids, and over texts
toggled : (bank : Content) (name old : Sym) (disabled before : Bool) → IsSound bank → IsNamed bank name → IsNamed bank old → (if nat_eq name.0 old.0 then not disabled else before) ≡ (if bytes_eq (text_at bank name) (text_at bank old) then not disabled else before)
toggled bank name old disabled before sound named stands = ap (λ b. if b then not disabled else before) (eqb-symbols bank name old sound named stands)

enabled_next : (bank : Content) (name : Sym) (before : Bool) (own : Sym) (k : EntryKind) (events : List Event) → IsSound bank → IsNamed bank name → KindStands bank own k → enabled_after (text_at bank name) (kind_enabled name before k) events ≡ enabled_after (text_at bank name) before (event_of bank own k ∷ events)
enabled_next bank name before own (kind.Shell shell) events sound named h = refl
enabled_next bank name before own (kind.Dcl n) events sound named h = refl
enabled_next bank name before own (kind.Defn formals body measure) events sound named h = refl
enabled_next bank name before own (kind.Axiom classes t) events sound named h = refl
enabled_next bank name before own (kind.Lemma classes t) events sound named h = refl
enabled_next bank name before own (kind.Toggle old disabled) events sound named h = ap (λ b. enabled_after (text_at bank name) b events) (toggled bank name old disabled before sound named h)

enabled_over : (bank : Content) (name : Sym) (before : Bool) (entries : List Entry) → IsSound bank → IsNamed bank name → All (EntryStands bank) entries → enabled_in name before entries ≡ enabled_after (text_at bank name) before (all_events_at bank entries)
enabled_over bank name before [] sound named h = refl
enabled_over bank name before (e ∷ entries) sound named h =
    enabled_over bank name (kind_enabled name before e.kind) entries sound named (All-tail (EntryStands bank) e entries h) ∙
    enabled_next bank name before e.name e.kind (all_events_at bank entries) sound named (All-head (EntryStands bank) e entries h).kind

pub enabled_is : (bank : Content) (name : Sym) (history : List Entry) → IsSound bank → IsNamed bank name → HistoryStands bank history → enabled_in name true history ≡ is_enabled (text_at bank name) (events_at bank history)
enabled_is bank name history sound named h =
    enabled_over bank name true history sound named h.entries ∙ ap (enabled_after (text_at bank name) true) (sym (all_events_are bank history h))

-- the entries before the first of a name, as a front of all
pub before_is : (name : Sym) (entries : List Entry) → take (length (entries_before name entries)) entries ≡ entries_before name entries
before_is name [] = refl
before_is name (e ∷ entries) = front (nat_eq name.0 e.name.0) (before_is name entries)
  where
    front : (b : Bool) → take (length (entries_before name entries)) entries ≡ entries_before name entries → take (length (if b then [] else e ∷ entries_before name entries)) (e ∷ entries) ≡ (if b then [] else e ∷ entries_before name entries)
    front true later = refl
    front false later = ap (λ es. e ∷ es) later

pub before_within : (name : Sym) (entries : List Entry) → length (entries_before name entries) ≤ length entries
before_within name entries = prefix_within (entries_before name entries) entries (before_is name entries)

-- the first entry of a name stands behind those before it
pub named_at : (name : Sym) (entries : List Entry) (e : Entry) → entry_named name entries ≡ Some e → e ≡ get_or entries (length (entries_before name entries)) e
named_at name [] e h = cc
named_at name (other ∷ entries) e h = place (nat_eq name.0 other.name.0) h (named_at name entries e)
  where
    place : (b : Bool) → (if b then Some other else entry_named name entries) ≡ Some e → (entry_named name entries ≡ Some e → e ≡ get_or entries (length (entries_before name entries)) e) → e ≡ get_or (other ∷ entries) (length (if b then [] else other ∷ entries_before name entries)) e
    place true k later = cc
    place false k later = later k

-- an entry is found by the first place of its name
abbrev names_of : List Entry → List Sym
names_of entries = map (λ e. e.name) entries

pub entry_at_place : (name : Sym) (entries : List Entry) (i : ℕ) → place_in name (names_of entries) ≡ Some i → (e : Entry) → e ≡ get_or entries i e → entry_named name entries ≡ Some e
entry_at_place name [] i h e is = cc
entry_at_place name (other ∷ entries) i h e is = pick (nat_eq name.0 other.name.0) (place_in name (names_of entries)) i h is (entry_at_place name entries)
  where
    pick : (b : Bool) (o : Option ℕ) (i : ℕ) → (if b then Some 0 else option_map suc o) ≡ Some i → e ≡ get_or (other ∷ entries) i e → ((j : ℕ) → o ≡ Some j → (d : Entry) → d ≡ get_or entries j d → entry_named name entries ≡ Some d) → (if b then Some other else entry_named name entries) ≡ Some e
    pick true o zero k is later = ap Some (sym is)
    pick true o (suc i) k is later = cc
    pick false None i k is later = cc
    pick false (Some j) zero k is later = cc
    pick false (Some j) (suc i) k is later =
        let found : Some j ≡ Some i = cc in
        later i found e is

pub no_entry : (name : Sym) (entries : List Entry) → place_in name (names_of entries) ≡ None → entry_named name entries ≡ None
no_entry name [] h = refl
no_entry name (other ∷ entries) h = pick (nat_eq name.0 other.name.0) (place_in name (names_of entries)) h (no_entry name entries)
  where
    pick : (b : Bool) (o : Option ℕ) → (if b then Some 0 else option_map suc o) ≡ None → (o ≡ None → entry_named name entries ≡ None) → (if b then Some other else entry_named name entries) ≡ None
    pick true o k later = cc
    pick false None k later = later refl
    pick false (Some j) k later = cc

-- so many entries stand before it
pub before_place : (name : Sym) (entries : List Entry) (i : ℕ) → place_in name (names_of entries) ≡ Some i → i ≡ length (entries_before name entries)
before_place name [] i h = cc
before_place name (other ∷ entries) i h = pick (nat_eq name.0 other.name.0) (place_in name (names_of entries)) i h (before_place name entries)
  where
    pick : (b : Bool) (o : Option ℕ) (i : ℕ) → (if b then Some 0 else option_map suc o) ≡ Some i → ((j : ℕ) → o ≡ Some j → j ≡ length (entries_before name entries)) → i ≡ length (if b then [] else other ∷ entries_before name entries)
    pick true o zero k later = refl
    pick true o (suc i) k later = cc
    pick false None i k later = cc
    pick false (Some j) zero k later = cc
    pick false (Some j) (suc i) k later = ap suc (later i cc)

pub all_before : (name : Sym) (entries : List Entry) → place_in name (names_of entries) ≡ None → length entries ≡ length (entries_before name entries)
all_before name [] h = refl
all_before name (other ∷ entries) h = pick (nat_eq name.0 other.name.0) (place_in name (names_of entries)) h (all_before name entries)
  where
    pick : (b : Bool) (o : Option ℕ) → (if b then Some 0 else option_map suc o) ≡ None → (o ≡ None → length entries ≡ length (entries_before name entries)) → suc (length entries) ≡ length (if b then [] else other ∷ entries_before name entries)
    pick true o k later = cc
    pick false None k later = ap suc (later refl)
    pick false (Some j) k later = cc

-- an undo that has no fault
pub undo_place : (name : Sym) (entries : List Entry) (kept count : ℕ) → kept ≡ length (entries_before name entries) → count ≡ length entries → undo_fault kept count ≡ None → (kept < length entries) × (ground_length ≤ kept)
undo_place name entries kept count is all h =
    let tests = parts (nat_eq kept count) (nat_lt kept ground_length) h in
    let within = before_within name entries in
    let other = eqb-false kept count tests.0 in
    let past = ltb-false kept ground_length tests.1 in
    (less kept count (length entries) (omega (arith, is, within)) all other, past)
  where
    parts : (b c : Bool) → (if b then Some NoSuchEvent else if c then Some GroundEvent else None) ≡ None → (b ≡ false) × (c ≡ false)
    parts true c k = cc
    parts false true k = cc
    parts false false k = (refl, refl)

    less : (m n p : ℕ) → m ≤ p → n ≡ p → (m ≡ n → ⊥) → m < p
    less m n p most same other = pick (nat_lt m p) refl
      where
        pick : (b : Bool) → nat_lt m p ≡ b → m < p
        pick true k = ltb-true m p k
        pick false k = let least = ltb-false m p k in absurd (other (omega (arith, most, least, same)))

pub if_found : (o : Option Entry) (P : Entry → Type 0) → ((e : Entry) → o ≡ Some e → P e) → IfSome o P
if_found None P h = tt
if_found (Some e) P h = h e refl

-- the events before the first of a name
kept_events : (bank : Content) (e : Entry) (rest : List Entry) (others : List Event) (b c : Bool) → b ≡ c → all_events_at bank rest ≡ others → all_events_at bank (if b then [] else e ∷ rest) ≡ (if c then [] else event_at bank e ∷ others)
kept_events bank e rest others true true same h = refl
kept_events bank e rest others true false same h = cc
kept_events bank e rest others false true same h = cc
kept_events bank e rest others false false same h = ap (λ es. event_at bank e ∷ es) h

pub before_in : (bank : Content) (name : Sym) (entries : List Entry) → IsSound bank → IsNamed bank name → All (EntryStands bank) entries → all_events_at bank (entries_before name entries) ≡ before_event (text_at bank name) (all_events_at bank entries)
before_in bank name [] sound named h = refl
before_in bank name (e ∷ entries) sound named h =
    kept_events bank e (entries_before name entries) (before_event (text_at bank name) (all_events_at bank entries)) (nat_eq name.0 e.name.0) (bytes_eq (text_at bank name) (event_name (event_at bank e)))
    (same_name bank name e sound named (All-head (EntryStands bank) e entries h))
    (before_in bank name entries sound named (All-tail (EntryStands bank) e entries h))

before_drop : (n : ℕ) (x : Name) (events : List Event) → n ≤ length (before_event x events) → before_event x (drop n events) ≡ drop n (before_event x events)
before_drop zero x events h = refl
before_drop (suc n) x [] h = absurd (omega (arith, h))
before_drop (suc n) x (e ∷ events) h = pick (bytes_eq x (event_name e)) h (before_drop n x events)
  where
    pick : (b : Bool) → suc n ≤ length (if b then [] else e ∷ before_event x events) → (n ≤ length (before_event x events) → before_event x (drop n events) ≡ drop n (before_event x events)) → before_event x (drop n events) ≡ drop (suc n) (if b then [] else e ∷ before_event x events)
    pick true k later = absurd (omega (arith, k))
    pick false k later = later (omega (arith, k))

pub undo_events : (bank : Content) (name : Sym) (history : List Entry) → IsSound bank → HistoryStands bank history → IsNamed bank name → ground_length ≤ length (entries_before name history) → events_at bank (entries_before name history) ≡ before_event (text_at bank name) (events_at bank history)
undo_events bank name history sound h named long =
    let x = text_at bank name in
    let whole = before_in bank name history sound named h.entries in
    let size = length-map (entries_before name history) (event_at bank) in
    sym (drop-map (event_at bank) ground_length (entries_before name history)) ∙
    ap (drop ground_length) whole ∙
    sym (before_drop ground_length x (all_events_at bank history) (omega (arith, long, size, ap length whole))) ∙
    ap (before_event x) (drop-map (event_at bank) ground_length history)
