-- What a claim leaves.
use Rattle.std.proofs.Common.{◌≡◌, ℕ, Bool, true, false, ◌||◌, List, [], ◌∷◌, ◌++◌, length, refl, sym, ap, ◌∙◌, subst, arith}
use Rattle.std.specs.Prelude.{Option, Some, None, IfSome, Ok, Err, nat_le, nat_lt, ◌&&◌, not, bytes_eq, if◌then◌else◌}
use Rattle.std.specs.Option.{option_map}
use Rattle.std.proofs.lemmas.Bool.Decides.{nat_tests}
use Rattle.std.proofs.lemmas.List.{length-map}
use Rattle.std.proofs.lemmas.Slice.Eq.{bytes_eq-Decides}
use Rattle.nq_logic.specs.Terms.{Name}
use Rattle.nq_logic.specs.Histories.{Event, Declaration, AddShell}
use Rattle.nq_logic.specs.Ground.{ground_history, all_events}
use Rattle.nq_logic.specs.Names.{event_in, event_name, event_names, events_names, has_name, is_in_use, is_reserved}
use Rattle.nq_bank.specs.declared.node.Sym.{Sym}
use Rattle.nq_bank.specs.declared.node.TermId.{TermId}
use Rattle.nq_bank.specs.Content.{Content, Stands, Grows, IsNamed, text_at, term_at}
use Rattle.nq_bank.specs.Marks.{IsMarkOf}
use Rattle.nq_bank.proofs.Growth.{Stands-grown, IsNamed-grown, term_at-grown, text_at-grown}
use Rattle.nq_history.specs.declared.entry.Entry.{Entry}
use Rattle.nq_history.specs.declared.entry.EntryKind.{EntryKind}
use Rattle.nq_history.specs.declared.entry.EntryKind.TheVariants as kind
use Rattle.nq_history.specs.declared.history.PushFault.{PushFault}
use Rattle.nq_history.specs.declared.history.PushFault.TheVariants as fault
use Rattle.nq_history.specs.Events.{event_of, event_at, events_at, past_ground, EntryStands, HistoryStands, KindStands}
use Rattle.nq_history.specs.Lookups.{push_fault, IsAnswer}
use Rattle.nq_history.specs.Marking.{AreMarked, IsMarked}
use Rattle.nq_history.proofs.MarkingLemmas.{all_within}
use Rattle.nq_history.proofs.ShellLemmas.{shell_at-grown, ShellStands-grown, texts-grown, names-grown}
use Rattle.nq_log.specs.States.{Claim, Adds, only_when, start_of}
use Rattle.nq_log.specs.Logs.{claimed}
use Rattle.nq_log.specs.ClosingLines.{has_room}
use Rattle.nq_check.specs.declared.context.Context.{Context}
use Rattle.nq_check.specs.Contexts.{state_of, HasNewNames, IsKept, IsWhole}
use Rattle.nq_check.specs.Claims.{event_named, has_place}
use Rattle.nq_check.specs.Judging.{IsClaimed}
use Rattle.nq_check.specs.Texts.{claim_text}

-- ---- whether the history has a place

pub place_found : (used : Bool) (count : ℕ) (u : Unit {0}) → IsAnswer (push_fault used count) (Ok u) → (nat_lt count 10000 && not used) ≡ true
place_found true count u h = absurd h
place_found false count u h = by_room (nat_le 10000 count) refl h
  where
    by_room : (b : Bool) → nat_le 10000 count ≡ b → IsAnswer (if b then Some fault.TooManyEvents else None) (Ok u) → (nat_lt count 10000 && true) ≡ true
    by_room true e h = absurd h
    by_room false e h = grind (arith, nat_tests)

no_place : (used : Bool) (count : ℕ) (e : PushFault) → (e ≡ fault.Memory → ⊥) → IsAnswer (push_fault used count) (Err e) → (nat_lt count 10000 && not used) ≡ false
no_place true count e other h = by_room (nat_lt count 10000)
  where
    by_room : (b : Bool) → (b && false) ≡ false
    by_room true = refl
    by_room false = refl
no_place false count e other h = by_room (nat_le 10000 count) refl h
  where
    by_room : (b : Bool) → nat_le 10000 count ≡ b → IsAnswer (if b then Some fault.TooManyEvents else None) (Err e) → (nat_lt count 10000 && true) ≡ false
    by_room true f h = grind (arith, nat_tests)
    by_room false f h = absurd (other h)

-- the events are as many as their entries
counted : (bank : Content) (history : List Entry) (name : Name) → (nat_lt (length (past_ground history)) 10000 && not (is_in_use name (events_at bank history))) ≡ has_place (events_at bank history) name
counted bank history name = ap (λ n. nat_lt n 10000 && not (is_in_use name (events_at bank history))) (sym (length-map (past_ground history) (event_at bank)))

pub has_place_found : (bank : Content) (history : List Entry) (name : Name) (u : Unit {0}) → IsAnswer (push_fault (is_in_use name (events_at bank history)) (length (past_ground history))) (Ok u) →
    has_place (events_at bank history) name ≡ true
has_place_found bank history name u h = sym (counted bank history name) ∙ place_found (is_in_use name (events_at bank history)) (length (past_ground history)) u h

pub has_no_place : (bank : Content) (history : List Entry) (name : Name) (e : PushFault) (claim : Claim) → (e ≡ fault.Memory → ⊥) → IsAnswer (push_fault (is_in_use name (events_at bank history)) (length (past_ground history))) (Err e) →
    claimed (only_when (has_place (events_at bank history) name) claim) ≡ None
has_no_place bank history name e claim other h =
    ap (λ b. claimed (only_when b claim)) (sym (counted bank history name) ∙ no_place (is_in_use name (events_at bank history)) (length (past_ground history)) e other h)

-- ---- names that are new

pub event_name_of : (bank : Content) (name : Sym) (k : EntryKind) → KindStands bank name k → event_name (event_of bank name k) ≡ text_at bank name
event_name_of bank name (kind.Shell shell) h = ap (text_at bank) (sym h.1)
event_name_of bank name (kind.Dcl n) h = refl
event_name_of bank name (kind.Defn formals body measure) h = refl
event_name_of bank name (kind.Axiom classes t) h = refl
event_name_of bank name (kind.Lemma classes t) h = refl
event_name_of bank name (kind.Toggle old disabled) h = refl

or_second : (a b : Bool) → b ≡ true → (a || b) ≡ true
or_second true b e = refl
or_second false b e = e

has_name_second : (n : Name) (xs ys : List Name) → has_name n ys ≡ true → has_name n (xs ++ ys) ≡ true
has_name_second n [] ys h = h
has_name_second n (x ∷ xs) ys h = or_second (bytes_eq n x) (has_name n (xs ++ ys)) (has_name_second n xs ys h)

-- the name of an event is among the names of all
name_used : (n : Name) (es h : List Event) (g : Event) → event_in n es ≡ Some g → has_name n (events_names (es ++ h)) ≡ true
name_used n [] h g e = absurd cc
name_used n (x ∷ es) h g e = by_name (bytes_eq n (event_name x)) refl e (name_used n es h g)
  where
    by_name : (b : Bool) → bytes_eq n (event_name x) ≡ b → (if b then Some x else event_in n es) ≡ Some g → (event_in n es ≡ Some g → has_name n (events_names (es ++ h)) ≡ true) → has_name n (event_names x ++ events_names (es ++ h)) ≡ true
    by_name true same found later = rw same refl
    by_name false other found later = has_name_second n (event_names x) (events_names (es ++ h)) (later found)

event_in_pushed : (n : Name) (h : List Event) (e : Event) → event_in n h ≡ None → bytes_eq n (event_name e) ≡ false → event_in n (h ++ e ∷ []) ≡ None
event_in_pushed n [] e none other = ap (λ b. if b then Some e else None) other
event_in_pushed n (x ∷ h) e none other = by_name (bytes_eq n (event_name x)) none (λ k. event_in_pushed n h e k other)
  where
    by_name : (b : Bool) → (if b then Some x else event_in n h) ≡ None → (event_in n h ≡ None → event_in n (h ++ e ∷ []) ≡ None) → (if b then Some x else event_in n (h ++ e ∷ [])) ≡ None
    by_name true none later = absurd cc
    by_name false none later = later none

not_used : (room used : Bool) → (room && not used) ≡ true → used ≡ false
not_used true true h = absurd cc
not_used true false h = refl
not_used false used h = absurd cc

unreserved : (r b : Bool) → (r || b) ≡ false → b ≡ false
unreserved true b h = absurd cc
unreserved false b h = h

-- a name that is not among those of the first events is no event's of them
unnamed : (g h : List Event) (n m : Name) (x : Event) → has_name m (events_names (g ++ h)) ≡ false → event_in n g ≡ Some x → bytes_eq n m ≡ false
unnamed g h n m x free found = by_name (bytes_eq n m) refl
  where
    by_name : (b : Bool) → bytes_eq n m ≡ b → b ≡ false
    by_name false same = refl
    by_name true same =
        let is : n ≡ m = (bytes_eq-Decides n m).0 same in
        let used = name_used m g h x (subst (λ (y : Name). event_in y g ≡ Some x) is found) in
        absurd cc

pub names_pushed : (h : List Event) (e : Event) → HasNewNames h → has_place h (event_name e) ≡ true → HasNewNames (h ++ e ∷ [])
names_pushed h e names place =
    let free = unreserved (is_reserved (event_name e)) (has_name (event_name e) (events_names (all_events h))) (not_used (has_room h) (is_in_use (event_name e) h) place) in
    record { new = λ n g found. event_in_pushed n h e (names.new n g found) (unnamed ground_history h n (event_name e) g free found) }

-- ---- an event was added

-- the history is kept with one more entry
pub kept_pushed : (bank : Content) (history new : List Entry) (e : Entry) → IsKept bank history → EntryStands bank e → has_place (events_at bank history) (text_at bank e.name) ≡ true →
    HistoryStands bank new → AreMarked bank new → events_at bank new ≡ events_at bank history ++ event_at bank e ∷ [] → IsKept bank new
kept_pushed bank history new e kept entry place stands marks events = record {
  stands = stands;
  marks = marks;
  names = subst HasNewNames (sym events)
      (names_pushed (events_at bank history) (event_at bank e) kept.names (ap (has_place (events_at bank history)) (event_name_of bank e.name e.kind entry.kind) ∙ place));
}

pub event_claimed : (old new : Context) (e : Event) (name text : List ℕ) → IsWhole new → has_place (state_of old).history name ≡ true → state_of new ≡ start_of ((state_of old).history ++ e ∷ []) → text ≡ claim_text (Adds e) ++ (10 ∷ []) →
    IsClaimed (state_of old) (claimed (only_when (has_place (state_of old).history name) (Adds e))) text new
event_claimed old new e name text whole place state shown = record {
  claim = Adds e;
  whole = whole;
  step = ap (λ b. claimed (only_when b (Adds e))) place;
  state = state;
  text_is = shown;
}

-- ---- an event under a name

module _ (old new : Content) (h : Grows old new) where
  measure_grown : (o : Option TermId) → IfSome o (λ t. Stands old t) → option_map (term_at new) o ≡ option_map (term_at old) o
  measure_grown None stands = refl
  measure_grown (Some t) stands = ap Some (term_at-grown old new t h stands)

  pub event_is : (name : Name) (s : Sym) (k : EntryKind) → text_at new s ≡ name → KindStands old s k → event_of new s k ≡ event_named old name k
  event_is name s (kind.Shell shell) reads stands = ap AddShell (shell_at-grown old new h shell stands.0)
  event_is name s (kind.Dcl n) reads stands = ap (λ (x : Name). Declaration x n) reads
  event_is name s (kind.Defn formals body measure) reads stands =
      let xs = texts-grown old new h formals.items stands.formals in
      let t = term_at-grown old new body h stands.body in
      let m = measure_grown measure stands.measure in
      rw (reads, xs, t, m) refl
  event_is name s (kind.Axiom classes t) reads stands = rw (reads, term_at-grown old new t h stands) refl
  event_is name s (kind.Lemma classes t) reads stands = rw (reads, term_at-grown old new t h stands) refl
  event_is name s (kind.Toggle other disabled) reads stands = rw (reads, text_at-grown old new other h stands) refl

  kind_stands : (s : Sym) (k : EntryKind) → KindStands old s k → KindStands new s k
  kind_stands s (kind.Shell shell) stands = (ShellStands-grown old new h shell stands.0, stands.1)
  kind_stands s (kind.Dcl n) stands = tt
  kind_stands s (kind.Defn formals body measure) stands = record { formals = names-grown old new h formals.items stands.formals; body = Stands-grown old new body h stands.body; measure = measure_stands measure stands.measure }
    where
      measure_stands : (o : Option TermId) → IfSome o (λ t. Stands old t) → IfSome o (λ t. Stands new t)
      measure_stands None k = tt
      measure_stands (Some t) k = Stands-grown old new t h k
  kind_stands s (kind.Axiom classes t) stands = Stands-grown old new t h stands
  kind_stands s (kind.Lemma classes t) stands = Stands-grown old new t h stands
  kind_stands s (kind.Toggle other disabled) stands = IsNamed-grown old new other h stands

  pub entry_stands : (e : Entry) → IsNamed new e.name → KindStands old e.name e.kind → EntryStands new e
  entry_stands e named stands = record { name = named; kind = kind_stands e.name e.kind stands }

-- a mark that was taken just now
pub marked_now : (old new : Content) (history : List Entry) (e : Entry) → Grows old new → IsKept old history → IsMarkOf old e.mark → IsMarked new history e
marked_now old new history e h kept mark = record { earlier = old; mark = mark; grew = h; held = all_within old history kept.marks kept.stands.entries }
