-- Names with numerals behind them, and how many names there are.
use Rattle.std.proofs.Common.{◌≡◌, ℕ, zero, suc, ◌+◌, ◌-◌, ◌<◌, Bool, true, false, List, [], ◌∷◌, ◌++◌, length, refl, sym, ap, ◌∙◌, arith}
use Rattle.std.specs.Prelude.{decimal}
use Rattle.std.proofs.lemmas.List.{length-append, length-map}
use Rattle.nq_logic.specs.Terms.{Name, Symbol}
use Rattle.nq_logic.specs.Histories.{History, Event, event_symbols, events_symbols}
use Rattle.nq_logic.specs.Ground.{all_events, ground_history, symbols_of}
use Rattle.nq_logic.specs.Names.{events_names, symbol_names, is_in_use}
use Rattle.nq_bank.specs.declared.node.Sym.{Sym}
use Rattle.nq_bank.specs.Content.{Content, text_at}
use Rattle.nq_bank.specs.Shells.{texts_at}
use Rattle.nq_history.specs.declared.entry.Entry.{Entry}
use Rattle.nq_history.specs.Events.{event_at, events_at, HistoryStands}
use Rattle.nq_history.proofs.LookupLemmas.{all_events_are}
use Rattle.nq_events.specs.MadeNames.{numbered_from, unused_from}
use Rattle.nq_event.specs.NameCounts.{name_count}

module _ (h : History) (name : Name) where
  pub numbered_used : (k more : ℕ) → 0 < more → is_in_use (name ++ decimal k) h ≡ true → numbered_from h name k more ≡ numbered_from h name (k + 1) (more - 1)
  numbered_used k zero lt e = absurd (omega arith)
  numbered_used k (suc more) lt e =
      let next : suc k ≡ k + 1 = omega arith in
      let less : more ≡ suc more - 1 = omega arith in
      ap (λ (b : Bool). elim b [ true ↦ numbered_from h name (suc k) more | false ↦ name ++ decimal k ]) e ∙ ap (λ n. numbered_from h name n more) next ∙ ap (numbered_from h name (k + 1)) less

  pub numbered_free : (k more : ℕ) → 0 < more → is_in_use (name ++ decimal k) h ≡ false → numbered_from h name k more ≡ name ++ decimal k
  numbered_free k zero lt e = absurd (omega arith)
  numbered_free k (suc more) lt e = ap (λ (b : Bool). elim b [ true ↦ numbered_from h name (suc k) more | false ↦ name ++ decimal k ]) e

  pub numbered_last : (k more : ℕ) → more ≡ 0 → numbered_from h name k more ≡ name ++ decimal k
  numbered_last k more e = ap (numbered_from h name k) e

  pub name_used : (count : ℕ) → count ≡ name_count h → is_in_use name h ≡ true → unused_from h name ≡ numbered_from h name 1 count
  unfolding name_count
  name_used count is e = ap (λ (b : Bool). elim b [ true ↦ numbered_from h name 1 (length (events_names (all_events h))) | false ↦ name ]) e ∙ ap (numbered_from h name 1) (sym is)

  pub name_free : is_in_use name h ≡ false → unused_from h name ≡ name
  name_free e = ap (λ (b : Bool). elim b [ true ↦ numbered_from h name 1 (length (events_names (all_events h))) | false ↦ name ]) e

-- the names of events are as many as the events and their functions
count_of : (es : List Event) → length (events_names es) ≡ length es + length (events_symbols es)
count_of [] = refl
count_of (e ∷ es) =
    let rest = count_of es in
    let names = length-append (symbol_names (event_symbols e)) (events_names es) in
    let here = length-map (event_symbols e) (λ (s : Symbol). s.0) in
    let symbols = length-append (event_symbols e) (events_symbols es) in
    omega (arith, rest, names, here, symbols)

symbols_both : (g h : List Event) → length (events_symbols (g ++ h)) ≡ length (events_symbols g ++ events_symbols h)
symbols_both [] h = refl
symbols_both (e ∷ g) h =
    let rest = symbols_both g h in
    let left = length-append (event_symbols e) (events_symbols (g ++ h)) in
    let right = length-append (event_symbols e ++ events_symbols g) (events_symbols h) in
    let first = length-append (event_symbols e) (events_symbols g) in
    let second = length-append (events_symbols g) (events_symbols h) in
    omega (arith, rest, left, right, first, second)

names_count : (h : History) → name_count h ≡ length (all_events h) + length (symbols_of h)
unfolding name_count symbols_of
names_count h = count_of (all_events h) ∙ ap (λ n. length (all_events h) + n) (symbols_both ground_history h)

-- the entries and the functions of a history are as many as its names
pub entries_count : (bank : Content) (history : List Entry) (symbols : List Sym) → HistoryStands bank history → texts_at bank symbols ≡ symbol_names (symbols_of (events_at bank history)) → length history + length symbols ≡ name_count (events_at bank history)
entries_count bank history symbols stands texts =
    let h = events_at bank history in
    let events : length history ≡ length (all_events h) = sym (ap length (all_events_are bank history stands) ∙ length-map history (event_at bank)) in
    let functions : length symbols ≡ length (symbols_of h) = sym (length-map symbols (text_at bank)) ∙ ap length texts ∙ length-map (symbols_of h) (λ (s : Symbol). s.0) in
    ap (λ n. n + length symbols) events ∙ ap (λ n. length (all_events h) + n) functions ∙ sym (names_count h)
