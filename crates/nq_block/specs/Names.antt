-- The names that a log can spell.
use Rattle.std.specs.Prelude.{IsTrue, [], ◌∷◌, ◌++◌}
use Rattle.nq_logtext.specs.Symbols.{is_symbol}
use Rattle.nq_logic.specs.Terms.{Name, Each}
use Rattle.nq_logic.specs.Histories.{History, Event}
use Rattle.nq_logic.specs.Ground.{all_events}
use Rattle.nq_logic.specs.Names.{event_names, events_names, before_event}

-- the names of the history's events and functions, those of the ground history too, are symbols
abbrev pub HasSymbols : History → Type 0
HasSymbols h = Each (λ n. IsTrue (is_symbol n)) (events_names (all_events h))

-- so it is at first
abbrev pub SymbolsBegin : Type 0
SymbolsBegin = HasSymbols []

-- an event whose names are symbols may be added
abbrev pub SymbolsGrow : Type 0
SymbolsGrow = (h : History) (e : Event) → HasSymbols h → Each (λ n. IsTrue (is_symbol n)) (event_names e) → HasSymbols (h ++ (e ∷ []))

-- an undo leaves it so
abbrev pub SymbolsStay : Type 0
SymbolsStay = (h : History) (n : Name) → HasSymbols h → HasSymbols (before_event n h)
