-- Histories whose names are symbols.
use Rattle.std.proofs.Common.{◌≡◌, Bool, true, false, List, [], ◌∷◌, ◌++◌, if◌then◌else◌, refl, sym, subst, append-nil}
use Rattle.std.specs.Prelude.{IsTrue, bytes_eq}
use Rattle.std.specs.List.{list_all}
use Rattle.nq_logtext.specs.Symbols.{is_symbol}
use Rattle.nq_logic.specs.Terms.{Name, Each}
use Rattle.nq_logic.specs.Histories.{History}
use Rattle.nq_logic.specs.Ground.{ground_history}
use Rattle.nq_logic.specs.Names.{event_name, event_names, events_names, before_event}
use Rattle.nq_logic.proofs.Lists.{each_append}
use Rattle.nq_proof.proofs.Tests.{and_left, and_right}
use Rattle.nq_proof.proofs.TermTests.{each_left, each_right}
use Rattle.nq_block.specs.Names.{HasSymbols, SymbolsBegin, SymbolsGrow, SymbolsStay}
use Rattle.nq_block.proofs.Named.{names_join}

abbrev AreSymbols : List Name → Type 0
AreSymbols names = Each (λ n. IsTrue (is_symbol n)) names

all_told : (names : List Name) → list_all is_symbol names ≡ true → AreSymbols names
all_told [] e = tt
all_told (n ∷ names) e = (and_left (is_symbol n) (list_all is_symbol names) e, all_told names (and_right (is_symbol n) (list_all is_symbol names) e))

ground_told : list_all is_symbol (events_names ground_history) ≡ true
ground_told = refl

-- the names of the events are all that counts
with_ground : (h : History) → AreSymbols (events_names h) → HasSymbols h
with_ground h w = subst AreSymbols (sym (names_join ground_history h)) (each_append (λ n. IsTrue (is_symbol n)) (events_names ground_history) (events_names h) (all_told (events_names ground_history) ground_told) w)

of_history : (h : History) → HasSymbols h → AreSymbols (events_names h)
of_history h w = each_right (λ n. IsTrue (is_symbol n)) (events_names ground_history) (events_names h) (subst AreSymbols (names_join ground_history h) w)

pub symbols_begin_law : SymbolsBegin
symbols_begin_law = with_ground [] tt

pub symbols_grow_law : SymbolsGrow
symbols_grow_law h e w own =
    let last : AreSymbols (events_names (e ∷ [])) = subst AreSymbols (sym (append-nil (event_names e))) own in
    with_ground (h ++ (e ∷ [])) (subst AreSymbols (sym (names_join h (e ∷ []))) (each_append (λ n. IsTrue (is_symbol n)) (events_names h) (events_names (e ∷ [])) (of_history h w) last))

left_before : (n : Name) (h : History) → AreSymbols (events_names h) → AreSymbols (events_names (before_event n h))
left_before n [] w = tt
left_before n (e ∷ h) w = by_name (bytes_eq n (event_name e)) (left_before n h (each_right (λ n. IsTrue (is_symbol n)) (event_names e) (events_names h) w))
  where
    by_name : (b : Bool) → AreSymbols (events_names (before_event n h)) → AreSymbols (events_names (if b then [] else e ∷ before_event n h))
    by_name true rest = tt
    by_name false rest = each_append (λ n. IsTrue (is_symbol n)) (event_names e) (events_names (before_event n h)) (each_left (λ n. IsTrue (is_symbol n)) (event_names e) (events_names h) w) rest

pub symbols_stay_law : SymbolsStay
symbols_stay_law h n w = with_ground (before_event n h) (left_before n h (of_history h w))
