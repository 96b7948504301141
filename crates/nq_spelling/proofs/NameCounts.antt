-- How many names a history has.
use Rattle.std.proofs.Common.{◌≡◌, ℕ, suc, ◌+◌, ◌*◌, ◌<◌, ◌≤◌, Bool, true, false, List, [], ◌∷◌, ◌++◌, length, refl, ap, ◌∙◌, arith}
use Rattle.std.specs.Prelude.{Option, None, Some, bytes_eq, nat_le, if◌then◌else◌}
use Rattle.std.proofs.lemmas.List.{length-append, length-map}
use Rattle.nq_logic.specs.Terms.{Each, Name}
use Rattle.nq_logic.specs.Histories.{History, Part, accessor_symbols, base_symbols}
use Rattle.nq_logic.specs.Histories as logic
use Rattle.nq_logic.specs.Ground.{all_events, ground_history}
use Rattle.nq_logic.specs.Names.{before_event, event_name, event_names, events_names, symbol_names}
use Rattle.nq_logic.proofs.Lists.{each_append}
use Rattle.nq_block.proofs.Named.{names_join}
use Rattle.nq_events.specs.Refusals.{Refusal}
use Rattle.nq_events.specs.OwnRefusals.{event_limit, refused_if}
use Rattle.nq_spelling.proofs.Tests.{above, within}
use Rattle.nq_spelling.specs.SpelledEvents.{HasFewNames, FewNamesBegin, FewNamesGrow, FewNamesStay, ShellsBringFewNames}

-- the event brings no more names than a shell with a base and 20 parts does
abbrev BringsFew : logic.Event → Type 0
BringsFew e = length (event_names e) ≤ 24

pub few_names_begin : FewNamesBegin
few_names_begin = record { events = omega arith; names = tt }

not_refused : (b : Bool) (refusal : Refusal) → refused_if b refusal ≡ None → b ≡ false
not_refused true refusal e = absurd (cc)
not_refused false refusal e = refl

one_event_more : (h : History) (e : logic.Event) → length h < event_limit → length (h ++ e ∷ []) ≤ event_limit
one_event_more h e room = omega (arith, length-append h (e ∷ []))

pub few_names_grow : FewNamesGrow
few_names_grow h e few room short = record {
  events = one_event_more h e (above event_limit (length h) (not_refused (nat_le event_limit (length h)) _ room));
  names = each_append BringsFew h (e ∷ []) few.names (short, tt);
}

accessors_count : (parts : List Part) → length (accessor_symbols parts) ≡ length parts
accessors_count [] = refl
accessors_count (part ∷ parts) = ap suc (accessors_count parts)

base_count : (base : Option Name) → length (base_symbols base) ≤ 1
base_count None = omega arith
base_count (Some b) = omega arith

pub shells_bring_few_names : ShellsBringFewNames
shells_bring_few_names shell spelled =
    let symbols = base_symbols shell.base ++ ((shell.recognizer, 1) ∷ accessor_symbols shell.parts) in
    let names : length (symbol_names symbols) ≡ length symbols = length-map symbols (λ s. s.0) in
    let joined : length symbols ≡ length (base_symbols shell.base) + length ((shell.recognizer, 1) ∷ accessor_symbols shell.parts) = length-append (base_symbols shell.base) ((shell.recognizer, 1) ∷ accessor_symbols shell.parts) in
    omega (arith, names, joined, base_count shell.base, accessors_count shell.parts, within (length shell.parts) 20 spelled.few)

before_shorter : (n : Name) (h : History) → length (before_event n h) ≤ length h
before_shorter n [] = omega arith
before_shorter n (e ∷ h) = by_name (bytes_eq n (event_name e)) (before_shorter n h) where
  by_name : (b : Bool) → length (before_event n h) ≤ length h → length (if b then [] else (e ∷ before_event n h)) ≤ length (e ∷ h)
  by_name true le = omega arith
  by_name false le = omega arith

before_each : (P : logic.Event → Type 0) (n : Name) (h : History) → Each P h → Each P (before_event n h)
before_each P n [] all = tt
before_each P n (e ∷ h) all = by_name (bytes_eq n (event_name e)) (before_each P n h all.1) where
  by_name : (b : Bool) → Each P (before_event n h) → Each P (if b then [] else (e ∷ before_event n h))
  by_name true more = tt
  by_name false more = (all.0, more)

pub few_names_stay : FewNamesStay
few_names_stay h n few = record { events = omega (arith, before_shorter n h, few.events); names = before_each BringsFew n h few.names }

names_bounded : (h : History) → Each BringsFew h → length (events_names h) ≤ 24 * length h
names_bounded [] all = omega arith
names_bounded (e ∷ h) all = omega (arith, length-append (event_names e) (events_names h), names_bounded h all.1, all.0)

ground_names_few : nat_le (length (events_names ground_history)) 1000 ≡ true
ground_names_few = refl

-- with those of the ground history
pub names_few : (h : History) → HasFewNames h → length (events_names (all_events h)) ≤ 241000
names_few h few =
    let joined : length (events_names (all_events h)) ≡ length (events_names ground_history) + length (events_names h) =
    ap length (names_join ground_history h) ∙ length-append (events_names ground_history) (events_names h) in
    let ground : length (events_names ground_history) ≤ 1000 = within (length (events_names ground_history)) 1000 ground_names_few in
    sum_few (length (events_names (all_events h))) (length (events_names ground_history)) (length (events_names h)) (length h) joined ground (names_bounded h few.names) few.events
  where
    sum_few : (all ground own events : ℕ) → all ≡ ground + own → ground ≤ 1000 → own ≤ 24 * events → events ≤ 10000 → all ≤ 241000
    sum_few all ground own events e g o n = omega arith
