-- The names of events, and which names are in use.
use Rattle.std.specs.Prelude.{ℕ, suc, nat_le, ◌==◌, Bool, true, false, ◌&&◌, ◌||◌, not, if◌then◌else◌, List, [], ◌∷◌, ◌++◌, map, bytes_eq, codes, Option, Some, None}
use Rattle.nq_logic.specs.Terms.{Name, Symbol}
use Rattle.nq_logic.specs.Histories.{History, Event, AddShell, Declaration, Defines, Axiom, Lemma, Toggle, event_symbols}
use Rattle.nq_logic.specs.Ground.{all_events}

-- the name of an event; that of a shell is its constructor's
abbrev pub event_name : Event → Name
event_name (AddShell s) = s.constructor
event_name (Declaration f n) = f
event_name (Defines d) = d.function
event_name (Axiom n classes t) = n
event_name (Lemma n classes t) = n
event_name (Toggle n old disabled) = n

abbrev pub symbol_names : List Symbol → List Name
symbol_names symbols = map (λ symbol. symbol.0) symbols

-- the names that an event brings into use: its own, and those of its functions
abbrev pub event_names : Event → List Name
event_names e = event_name e ∷ symbol_names (event_symbols e)

abbrev pub events_names : History → List Name
events_names [] = []
events_names (e ∷ h) = event_names e ++ events_names h

abbrev pub has_name : Name → List Name → Bool
has_name x [] = false
has_name x (y ∷ ys) = bytes_eq x y || has_name x ys

-- whether each of the xs is one of the ys
abbrev pub are_among : List Name → List Name → Bool
are_among [] ys = true
are_among (x ∷ xs) ys = has_name x ys && are_among xs ys

-- whether no name stands twice
abbrev pub are_distinct : List Name → Bool
are_distinct [] = true
are_distinct (x ∷ xs) = not (has_name x xs) && are_distinct xs

-- the constants that are written as symbols, and so are no variables
abbrev pub constant_names : List Name
constant_names = codes "T" ∷ codes "F" ∷ codes "NIL" ∷ []

-- the names of abbreviations, and of the functions that the logic leaves out
abbrev pub reserved_names : List Name
reserved_names =
    constant_names
    ++ (codes "QUOTE" ∷ codes "LIST" ∷ codes "COND" ∷ codes "CASE" ∷ codes "LET" ∷ codes "OTHERWISE" ∷ codes "FOR"
    ∷ codes "V&C$" ∷ codes "EVAL$" ∷ codes "APPLY$" ∷ codes "SUBRP" ∷ codes "BODY" ∷ codes "FORMALS" ∷ [])

abbrev pub is_no_more : List ℕ → Bool
is_no_more [] = true
is_no_more (b ∷ bs) = false

-- A and D, in all at least two with the count before them, and then R
abbrev pub ends_nest : ℕ → List ℕ → Bool
ends_nest count [] = false
ends_nest count (b ∷ bs) = (b == 82 && nat_le 2 count && is_no_more bs) || ((b == 65 || b == 68) && ends_nest (suc count) bs)

-- whether the name abbreviates a nest of CAR and CDR: C, two or more of A and D, and R
abbrev pub is_nest : Name → Bool
is_nest [] = false
is_nest (b ∷ bs) = b == 67 && ends_nest 0 bs

-- whether the name is in use in every history
abbrev pub is_reserved : Name → Bool
is_reserved n = has_name n reserved_names || is_nest n

-- whether the history has an event or a function of this name, or it is always in use
abbrev pub is_in_use : Name → History → Bool
is_in_use n h = is_reserved n || has_name n (events_names (all_events h))

-- the first event of this name, if there is one
abbrev pub event_in : Name → List Event → Option Event
event_in n [] = None
event_in n (e ∷ h) = if bytes_eq n (event_name e) then Some e else event_in n h

-- the event of this name, of the ground history or of h
abbrev pub looked_up : Name → History → Option Event
looked_up n h = event_in n (all_events h)

-- the events before the first one of this name: what an undo of that event leaves
abbrev pub before_event : Name → History → History
before_event n [] = []
before_event n (e ∷ h) = if bytes_eq n (event_name e) then [] else e ∷ before_event n h

-- Whether a name is enabled after these events, where it was so before them or not: the last toggle of it tells.
abbrev pub enabled_after : Name → Bool → List Event → Bool
enabled_after n before [] = before
enabled_after n before (AddShell s ∷ h) = enabled_after n before h
enabled_after n before (Declaration f k ∷ h) = enabled_after n before h
enabled_after n before (Defines d ∷ h) = enabled_after n before h
enabled_after n before (Axiom name classes t ∷ h) = enabled_after n before h
enabled_after n before (Lemma name classes t ∷ h) = enabled_after n before h
enabled_after n before (Toggle name old disabled ∷ h) = enabled_after n (if bytes_eq n old then not disabled else before) h

-- a name is enabled unless the last toggle of it disables it
abbrev pub is_enabled : Name → History → Bool
is_enabled n h = enabled_after n true (all_events h)

-- a name is enabled for an event that enables and disables these names by its hints
abbrev pub is_enabled_for : List Name → List Name → Name → History → Bool
is_enabled_for enabled disabled n h = not (has_name n disabled) && (has_name n enabled || is_enabled n h)
