-- The names that entries bring into use are those of their events and those of their functions.
use Rattle.std.proofs.Common.{◌≡◌, ℕ, suc, Bool, true, false, ◌||◌, List, [], ◌∷◌, Option, Some, None, map, refl, sym, ap, ap₂, ◌∙◌}
use Rattle.std.specs.Prelude.{All, bytes_eq, nat_eq, is_some, if◌then◌else◌}
use Rattle.std.specs.Option.{option_map}
use Rattle.std.proofs.lemmas.List.{map-append}
use Rattle.nq_logic.specs.Terms.{Name, Symbol}
use Rattle.nq_logic.specs.Histories.{Event, event_symbols, events_symbols}
use Rattle.nq_logic.specs.Names.{event_name, events_names, has_name, symbol_names}
use Rattle.nq_bank.specs.declared.node.Sym.{Sym}
use Rattle.nq_bank.specs.Content.{Content, IsNamed, text_at}
use Rattle.nq_bank.specs.Shells.{texts_at}
use Rattle.nq_bank.specs.Soundness.{IsSound}
use Rattle.nq_bank.proofs.NodesLemmas.{All-head, All-tail}
use Rattle.nq_bank.proofs.SoundLemmas.{eqb-symbols}
use Rattle.nq_history.specs.declared.entry.Entry.{Entry}
use Rattle.nq_history.specs.Events.{all_events_at, EntryStands}
use Rattle.nq_history.specs.Functions.{functions_of}
use Rattle.nq_history.specs.Places.{place_in}
use Rattle.nq_history.proofs.Lists.{All-none, All-cons}
use Rattle.nq_history.proofs.LookupLemmas.{event_name_of, has_name-append}
use Rattle.nq_history.proofs.FunctionLemmas.{function_texts, symbols_stand}

-- the names of events, then those of functions
sorted : (a p s q : Bool) → (a || (s || (p || q))) ≡ ((a || p) || (s || q))
sorted true p s q = refl
sorted false true true q = refl
sorted false true false q = refl
sorted false false s q = refl

event_or_function : (x : Name) (events : List Event) → has_name x (events_names events) ≡ (has_name x (map event_name events) || has_name x (symbol_names (events_symbols events)))
event_or_function x [] = refl
event_or_function x (e ∷ events) =
    let own = symbol_names (event_symbols e) in
    let functions = symbol_names (events_symbols events) in
    ap (λ b. bytes_eq x (event_name e) || b) (has_name-append x own (events_names events) ∙ ap (λ b. has_name x own || b) (event_or_function x events)) ∙
    sorted (bytes_eq x (event_name e)) (has_name x (map event_name events)) (has_name x own) (has_name x functions) ∙
    ap (λ b. has_name x (map event_name (e ∷ events)) || b) (sym (has_name-append x own functions) ∙ ap (has_name x) (sym (map-append (λ (symbol : Symbol). symbol.0) (event_symbols e) (events_symbols events))))

module _ (bank : Content) where
  event_texts : (entries : List Entry) → All (EntryStands bank) entries → map event_name (all_events_at bank entries) ≡ texts_at bank (map (λ e. e.name) entries)
  event_texts [] h = refl
  event_texts (e ∷ entries) h =
      let here : EntryStands bank e = All-head (EntryStands bank) e entries h in
      ap₂ (λ (y : Name) (ys : List Name). y ∷ ys) (event_name_of bank e.name e.kind here.kind) (event_texts entries (All-tail (EntryStands bank) e entries h))

  events_stand : (entries : List Entry) → All (EntryStands bank) entries → All (IsNamed bank) (map (λ e. e.name) entries)
  events_stand [] h = All-none (IsNamed bank)
  events_stand (e ∷ entries) h =
      let here : EntryStands bank e = All-head (EntryStands bank) e entries h in
      All-cons (IsNamed bank) e.name (map (λ d. d.name) entries) here.name (events_stand entries (All-tail (EntryStands bank) e entries h))

  module _ (name : Sym) (sound : IsSound bank) (named : IsNamed bank name) where
    abbrev x : Name
    x = text_at bank name

    found : (b c : Bool) (o : Option ℕ) (rest : Bool) → b ≡ c → is_some o ≡ rest → is_some (if b then Some 0 else option_map suc o) ≡ (c || rest)
    found true true o rest same h = refl
    found true false o rest same h = cc
    found false true o rest same h = cc
    found false false None rest same h = h
    found false false (Some i) rest same h = h

    -- a name has a place where its text is among the texts
    has_place : (names : List Sym) → All (IsNamed bank) names → is_some (place_in name names) ≡ has_name x (texts_at bank names)
    has_place [] h = refl
    has_place (s ∷ names) h =
        found (nat_eq name.0 s.0) (bytes_eq x (text_at bank s)) (place_in name names) (has_name x (texts_at bank names))
        (eqb-symbols bank name s sound named (All-head (IsNamed bank) s names h))
        (has_place names (All-tail (IsNamed bank) s names h))

    -- a name is in use where an event or a function has it
    pub used_told : (entries : List Entry) → All (EntryStands bank) entries
        → (is_some (place_in name (map (λ e. e.name) entries)) || is_some (place_in name (map (λ f. f.0) (functions_of entries)))) ≡ has_name x (events_names (all_events_at bank entries))
    used_told entries h =
        ap₂ (λ a b. a || b)
        (has_place (map (λ e. e.name) entries) (events_stand entries h) ∙ ap (has_name x) (sym (event_texts entries h)))
        (has_place (map (λ f. f.0) (functions_of entries)) (symbols_stand bank entries h) ∙ ap (has_name x) (function_texts bank entries)) ∙
        sym (event_or_function x (all_events_at bank entries))
