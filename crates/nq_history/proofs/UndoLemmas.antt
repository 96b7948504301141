-- How the logic sees an undo.
use Rattle.std.proofs.Common.{◌≡◌, ◌-◌, ◌<◌, ◌≤◌, ℕ, zero, suc, Bool, true, false, ◌++◌, List, [], ◌∷◌, Option, Some, None, length, take, drop, refl, sym, ap, subst, ◌∙◌, arith}
use Rattle.std.specs.Prelude.{bytes_eq, nat_eq, nat_lt, is_some, Ok, Err, if◌then◌else◌}
use Rattle.std.proofs.lemmas.List.{drop-map, length-map, length-take, length-drop}
use Rattle.std.proofs.lemmas.Bool.{eqb-true, eqb-false, ltb-true, ltb-false}
use Rattle.nq_logic.specs.Terms.{Name}
use Rattle.nq_logic.specs.Histories.{Event}
use Rattle.nq_logic.specs.Ground.{ground_history}
use Rattle.nq_logic.specs.Names.{event_name, event_in, looked_up, before_event}
use Rattle.nq_bank.specs.declared.node.Sym.{Sym}
use Rattle.nq_bank.specs.Content.{Content, IsNamed, text_at}
use Rattle.nq_bank.specs.Soundness.{IsSound}
use Rattle.nq_history.specs.declared.entry.Entry.{Entry}
use Rattle.nq_history.specs.Events.{all_events_at, event_at, events_at, ground_length, past_ground, HistoryStands}
use Rattle.nq_history.specs.Lookups.{IsUndo, entries_before, undo_answer, undo_result}
use Rattle.nq_history.specs.declared.history.UndoFault.TheVariants.{NoSuchEvent, GroundEvent}
use Rattle.nq_history.proofs.LookupLemmas.{all_events_are, before_in, before_within, undo_events}

-- no event has the name where none of them stands behind the others
none_named : (x : Name) (events : List Event) → length (before_event x events) ≡ length events → event_in x events ≡ None
none_named x [] h = refl
none_named x (e ∷ events) h = pick (bytes_eq x (event_name e)) h (none_named x events)
  where
    pick : (b : Bool) → length (if b then [] else e ∷ before_event x events) ≡ suc (length events) → (length (before_event x events) ≡ length events → event_in x events ≡ None) → (if b then Some e else event_in x events) ≡ None
    pick true k later = absurd (omega (arith, k))
    pick false k later = later (omega (arith, k))

-- one of the first has the name where fewer stand before it
first_named : (n : ℕ) (x : Name) (events : List Event) → length (before_event x events) < n → n ≤ length events → is_some (event_in x (take n events)) ≡ true
first_named zero x events h k = absurd (omega (arith, h))
first_named (suc n) x [] h k = absurd (omega (arith, k))
first_named (suc n) x (e ∷ events) h k = pick (bytes_eq x (event_name e)) h (λ less. first_named n x events less (omega (arith, k)))
  where
    pick : (b : Bool) → length (if b then [] else e ∷ before_event x events) < suc n → (length (before_event x events) < n → is_some (event_in x (take n events)) ≡ true) → is_some (if b then Some e else event_in x (take n events)) ≡ true
    pick true less later = refl
    pick false less later = later (omega (arith, less))

-- none of the first has it where as many stand before it
none_first : (n : ℕ) (x : Name) (events : List Event) → n ≤ length (before_event x events) → event_in x (take n events) ≡ None
none_first zero x events h = refl
none_first (suc n) x [] h = absurd (omega (arith, h))
none_first (suc n) x (e ∷ events) h = pick (bytes_eq x (event_name e)) h (none_first n x events)
  where
    pick : (b : Bool) → suc n ≤ length (if b then [] else e ∷ before_event x events) → (n ≤ length (before_event x events) → event_in x (take n events) ≡ None) → (if b then Some e else event_in x (take n events)) ≡ None
    pick true less later = absurd (omega (arith, less))
    pick false less later = later (omega (arith, less))

-- then one of the others has it, where any has
later_named : (n : ℕ) (x : Name) (events : List Event) → n ≤ length (before_event x events) → length (before_event x events) < length events → is_some (event_in x (drop n events)) ≡ true
later_named zero x events h k = some_named x events k
  where
    some_named : (x : Name) (events : List Event) → length (before_event x events) < length events → is_some (event_in x events) ≡ true
    some_named x [] k = absurd (omega (arith, k))
    some_named x (e ∷ events) k = pick (bytes_eq x (event_name e)) k (some_named x events)
      where
        pick : (b : Bool) → length (if b then [] else e ∷ before_event x events) < suc (length events) → (length (before_event x events) < length events → is_some (event_in x events) ≡ true) → is_some (if b then Some e else event_in x events) ≡ true
        pick true less later = refl
        pick false less later = later (omega (arith, less))
later_named (suc n) x [] h k = absurd (omega (arith, h))
later_named (suc n) x (e ∷ events) h k = pick (bytes_eq x (event_name e)) h k (later_named n x events)
  where
    pick : (b : Bool) → suc n ≤ length (if b then [] else e ∷ before_event x events) → length (if b then [] else e ∷ before_event x events) < suc (length events) → (n ≤ length (before_event x events) → length (before_event x events) < length events → is_some (event_in x (drop n events)) ≡ true) → is_some (event_in x (drop n events)) ≡ true
    pick true less within later = absurd (omega (arith, less))
    pick false less within later = later (omega (arith, less)) (omega (arith, within))

some_of : (o : Option Event) → o ≡ None → is_some o ≡ false
some_of o h = ap is_some h

-- what is in the ground history is looked up
ground_known : (x : Name) (ground h : List Event) → is_some (event_in x ground) ≡ true → is_some (event_in x (ground ++ h)) ≡ true
ground_known x [] h k = absurd cc
ground_known x (e ∷ ground) h k = pick (bytes_eq x (event_name e)) k (ground_known x ground h)
  where
    pick : (b : Bool) → is_some (if b then Some e else event_in x ground) ≡ true → (is_some (event_in x ground) ≡ true → is_some (event_in x (ground ++ h)) ≡ true) → is_some (if b then Some e else event_in x (ground ++ h)) ≡ true
    pick true k later = refl
    pick false k later = later k

-- so is what is past it
past_known : (x : Name) (ground h : List Event) → is_some (event_in x h) ≡ true → is_some (event_in x (ground ++ h)) ≡ true
past_known x [] h k = k
past_known x (e ∷ ground) h k = pick (bytes_eq x (event_name e)) (past_known x ground h k)
  where
    pick : (b : Bool) → is_some (event_in x (ground ++ h)) ≡ true → is_some (if b then Some e else event_in x (ground ++ h)) ≡ true
    pick true later = refl
    pick false later = later

module _ (bank : Content) (name : Sym) (history : List Entry) (sound : IsSound bank) (h : HistoryStands bank history) (named : IsNamed bank name) where
  abbrev x : Name
  x = text_at bank name

  abbrev events : List Event
  events = all_events_at bank history

  size : length events ≡ length history
  size = length-map history (event_at bank)

  before : length (before_event x events) ≡ length (entries_before name history)
  before = ap length (sym (before_in bank name history sound named h.entries)) ∙ length-map (entries_before name history) (event_at bank)

  past : drop ground_length events ≡ events_at bank history
  past = drop-map (event_at bank) ground_length history

  whole : events ≡ ground_history ++ events_at bank history
  whole = sym (all_events_are bank history h)

  ground_within : ground_length ≤ length history
  ground_within =
      let ground_size : length ground_history ≡ ground_length = refl in
      omega (arith, ap length h.ground ∙ ground_size, length-take ground_length events, size)

  undo_none : length (entries_before name history) ≡ length history → IsUndo x (events_at bank history) (Err NoSuchEvent)
  undo_none all = some_of (looked_up x (events_at bank history)) (ap (event_in x) (sym whole) ∙ none_named x events (before ∙ all ∙ sym size))

  undo_ground : length (entries_before name history) < ground_length → IsUndo x (events_at bank history) (Err GroundEvent)
  undo_ground less =
      let ground : is_some (event_in x ground_history) ≡ true =
      subst (λ (es : List Event). is_some (event_in x es) ≡ true) h.ground (first_named ground_length x events (omega (arith, before, less)) (omega (arith, size, ground_within))) in
      record { known = ground_known x ground_history (events_at bank history) ground; ground = ground }

  undo_past : ground_length ≤ length (entries_before name history) → length (entries_before name history) < length history → IsUndo x (events_at bank history) (Ok (length history - length (entries_before name history)))
  undo_past long less =
      let none : event_in x ground_history ≡ None = subst (λ (es : List Event). event_in x es ≡ None) h.ground (none_first ground_length x events (omega (arith, before, long))) in
      let one : is_some (event_in x (events_at bank history)) ≡ true =
      subst (λ (es : List Event). is_some (event_in x es) ≡ true) past (later_named ground_length x events (omega (arith, before, long)) (omega (arith, before, size, less))) in
      let left = undo_events bank name history sound h named long in
      let kept_size : length (before_event x (events_at bank history)) ≡ length (entries_before name history) - ground_length =
      ap length (sym left) ∙ length-map (past_ground (entries_before name history)) (event_at bank) ∙ length-drop ground_length (entries_before name history) in
      let all_size : length (events_at bank history) ≡ length history - ground_length = length-map (past_ground history) (event_at bank) ∙ length-drop ground_length history in
      record {
        known = past_known x ground_history (events_at bank history) one;
        event = one;
        past = some_of (event_in x ground_history) none;
        count = omega (arith, kept_size, all_size, long, less);
      }

  -- an undo of the name is answered as the logic says
  pub undo_told : IsUndo x (events_at bank history) (undo_answer (length (entries_before name history)) (length history))
  undo_told = go (nat_eq (length (entries_before name history)) (length history)) refl (nat_lt (length (entries_before name history)) ground_length) refl
    where
      kept : ℕ
      kept = length (entries_before name history)

      go : (b : Bool) → nat_eq kept (length history) ≡ b → (c : Bool) → nat_lt kept ground_length ≡ c
          → IsUndo x (events_at bank history) (undo_result (if b then Some NoSuchEvent else if c then Some GroundEvent else None) (length history - kept))
      go true e c k = undo_none (eqb-true kept (length history) e)
      go false e true k = undo_ground (ltb-true kept ground_length k)
      go false e false k =
          let within = before_within name history in
          let other = eqb-false kept (length history) e in
          undo_past (ltb-false kept ground_length k) (less within other)
        where
          less : kept ≤ length history → (kept ≡ length history → ⊥) → kept < length history
          less most other = pick (nat_lt kept (length history)) refl
            where
              pick : (b : Bool) → nat_lt kept (length history) ≡ b → kept < length history
              pick true k = ltb-true kept (length history) k
              pick false k = absurd (other (omega (arith, most, ltb-false kept (length history) k)))
