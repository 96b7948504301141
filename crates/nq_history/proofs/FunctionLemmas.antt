-- The functions of entries are those of their events, and a name is found among them as its text is.
use Rattle.std.proofs.Common.{◌≡◌, ◌≤◌, ◌<◌, ◌+◌, ℕ, zero, suc, slice_get, Bool, true, false, ◌++◌, List, [], ◌∷◌, Option, Some, None, length, get_or, take, drop, map, append_assoc, refl, sym, ap, ◌∙◌, arith, length-append, take-append-drop, if◌then◌else◌}
use Rattle.std.specs.Prelude.{All, bytes_eq, nat_eq}
use Rattle.std.specs.Option.{option_map}
use Rattle.std.proofs.lemmas.List.{map-append, length-map, take_more}
use Rattle.nq_logic.specs.Histories.{base_symbols, accessor_symbols, shell_symbols, event_symbols, events_symbols}
use Rattle.nq_logic.specs.Ground.{ground_history, symbols_of}
use Rattle.nq_logic.specs.Names.{symbol_names}
use Rattle.nq_language.specs.Arities.{arity_in}
use Rattle.nq_bank.specs.declared.node.Sym.{Sym}
use Rattle.nq_bank.specs.declared.shell.Part.{Part}
use Rattle.nq_bank.specs.declared.shell.Shell.{Shell}
use Rattle.nq_bank.specs.Content.{Content, IsNamed, text_at}
use Rattle.nq_bank.specs.Shells.{part_at, parts_at, shell_at, texts_at, text_if, BaseStands, PartStands, ShellStands}
use Rattle.nq_bank.specs.Soundness.{IsSound}
use Rattle.nq_bank.proofs.NodesLemmas.{All-head, All-tail}
use Rattle.nq_bank.proofs.SoundLemmas.{eqb-symbols}
use Rattle.nq_proof.proofs.ShellSymbols.{symbols_join}
use Rattle.nq_history.specs.declared.entry.EntryKind.{EntryKind}
use Rattle.nq_history.specs.declared.entry.EntryKind.TheVariants as kind
use Rattle.nq_history.specs.declared.entry.Entry.{Entry}
use Rattle.nq_history.specs.Events.{event_of, event_at, all_events_at, events_at, KindStands, EntryStands, HistoryStands}
use Rattle.nq_history.specs.Functions.{base_functions, accessor_functions, shell_functions, kind_functions, entry_functions, functions_of, symbol_at, arity_among}
use Rattle.nq_history.specs.Places.{place_in}
use Rattle.nq_history.proofs.Lists.{All-none, All-cons}
use Rattle.nq_history.proofs.LookupLemmas.{all_events_are}

-- the functions of entries that are joined
pub functions_append : (xs ys : List Entry) → functions_of (xs ++ ys) ≡ functions_of xs ++ functions_of ys
functions_append [] ys = refl
functions_append (e ∷ xs) ys = ap (λ fs. entry_functions e ++ fs) (functions_append xs ys) ∙ sym (append_assoc (entry_functions e) (functions_of xs) (functions_of ys))

pub functions_push : (xs : List Entry) (e : Entry) → functions_of (xs ++ e ∷ []) ≡ functions_of xs ++ entry_functions e
functions_push xs e = functions_append xs (e ∷ []) ∙ ap (λ fs. functions_of xs ++ fs) (nothing_behind (entry_functions e))
  where
    nothing_behind : (fs : List (Sym × ℕ)) → fs ++ [] ≡ fs
    nothing_behind [] = refl
    nothing_behind (f ∷ fs) = ap (λ rest. f ∷ rest) (nothing_behind fs)

-- the functions of one more entry
pub functions_more : (es : List Entry) (i : ℕ) (e : Entry) → i < length es → e ≡ get_or es i e → functions_of (take (i + 1) es) ≡ functions_of (take i es) ++ entry_functions e
functions_more es i e below is = ap functions_of (take_more es i e below) ∙ ap (λ here. functions_of (take i es ++ here ∷ [])) (sym is) ∙ functions_push (take i es) e

pub counted : (es : List Entry) (i : ℕ) (e : Entry) → i < length es → e ≡ get_or es i e → length (functions_of (take (i + 1) es)) ≡ length (functions_of (take i es)) + length (entry_functions e)
counted es i e below is = ap length (functions_more es i e below is) ∙ length-append (functions_of (take i es)) (entry_functions e)

-- the functions of a front of entries are no more than those of all
pub fewer_functions : (es : List Entry) (n : ℕ) → length (functions_of (take n es)) ≤ length (functions_of es)
fewer_functions es n =
    let whole = ap (λ xs. length (functions_of xs)) (take-append-drop n es) in
    let join = ap length (functions_append (take n es) (drop n es)) in
    let size = length-append (functions_of (take n es)) (functions_of (drop n es)) in
    omega (arith, whole, join, size)

-- a function that is found by its first place
pub some_arity : (name : Sym) (fs : List (Sym × ℕ)) (i : ℕ) → place_in name (map (λ f. f.0) fs) ≡ Some i → arity_among name fs ≡ slice_get (map (λ f. f.1) fs) i
some_arity name [] i h = cc
some_arity name (f ∷ fs) i h = pick (nat_eq name.0 f.0.0) (place_in name (map (λ g. g.0) fs)) i h (some_arity name fs)
  where
    pick : (b : Bool) (o : Option ℕ) (i : ℕ) → (if b then Some 0 else option_map suc o) ≡ Some i → ((j : ℕ) → o ≡ Some j → arity_among name fs ≡ slice_get (map (λ g. g.1) fs) j) → (if b then Some f.1 else arity_among name fs) ≡ slice_get (f.1 ∷ map (λ g. g.1) fs) i
    pick true o zero k later = refl
    pick true o (suc i) k later = cc
    pick false None i k later = cc
    pick false (Some j) zero k later = cc
    pick false (Some j) (suc i) k later = later i cc

pub no_arity : (name : Sym) (fs : List (Sym × ℕ)) → place_in name (map (λ f. f.0) fs) ≡ None → arity_among name fs ≡ None
no_arity name [] h = refl
no_arity name (f ∷ fs) h = pick (nat_eq name.0 f.0.0) (place_in name (map (λ g. g.0) fs)) h (no_arity name fs)
  where
    pick : (b : Bool) (o : Option ℕ) → (if b then Some 0 else option_map suc o) ≡ None → (o ≡ None → arity_among name fs ≡ None) → (if b then Some f.1 else arity_among name fs) ≡ None
    pick true o k later = cc
    pick false None k later = later refl
    pick false (Some j) k later = cc

-- the functions that an entry brings are those that its event adds
module _ (bank : Content) where
  base_at : (base : Option Sym) → map (symbol_at bank) (base_functions base) ≡ base_symbols (text_if bank base)
  base_at None = refl
  base_at (Some s) = refl

  accessors_at : (parts : List Part) → map (symbol_at bank) (accessor_functions parts) ≡ accessor_symbols (parts_at bank parts)
  accessors_at [] = refl
  accessors_at (part ∷ parts) = ap (λ fs. (text_at bank part.accessor, 1) ∷ fs) (accessors_at parts)

  shell_at_all : (s : Shell) → map (symbol_at bank) (shell_functions s) ≡ shell_symbols (shell_at bank s)
  shell_at_all s =
      let count = length-map s.parts.items (part_at bank) in
      ap (λ fs. (text_at bank s.constructor, length s.parts.items) ∷ fs) (
      map-append (symbol_at bank) (base_functions s.base) ((s.recognizer, 1) ∷ accessor_functions s.parts.items) ∙
      ap (λ fs. fs ++ (text_at bank s.recognizer, 1) ∷ map (symbol_at bank) (accessor_functions s.parts.items)) (base_at s.base) ∙
      ap (λ fs. base_symbols (text_if bank s.base) ++ (text_at bank s.recognizer, 1) ∷ fs) (accessors_at s.parts.items)) ∙
      ap (λ n. (text_at bank s.constructor, n) ∷ (base_symbols (text_if bank s.base) ++ ((text_at bank s.recognizer, 1) ∷ accessor_symbols (parts_at bank s.parts.items)))) (sym count)

  kind_at : (name : Sym) (k : EntryKind) → map (symbol_at bank) (kind_functions name k) ≡ event_symbols (event_of bank name k)
  kind_at name (kind.Shell shell) = shell_at_all shell
  kind_at name (kind.Dcl n) = refl
  kind_at name (kind.Defn formals body measure) = ap (λ n. (text_at bank name, n) ∷ []) (sym (length-map formals.items (text_at bank)))
  kind_at name (kind.Axiom classes t) = refl
  kind_at name (kind.Lemma classes t) = refl
  kind_at name (kind.Toggle old disabled) = refl

  functions_at : (entries : List Entry) → map (symbol_at bank) (functions_of entries) ≡ events_symbols (all_events_at bank entries)
  functions_at [] = refl
  functions_at (e ∷ entries) =
      map-append (symbol_at bank) (entry_functions e) (functions_of entries) ∙
      ap (λ fs. fs ++ map (symbol_at bank) (functions_of entries)) (kind_at e.name e.kind) ∙
      ap (λ fs. event_symbols (event_at bank e) ++ fs) (functions_at entries)

  -- and those of a history are the functions of the logic's history
  pub symbols_are : (history : List Entry) → HistoryStands bank history → map (symbol_at bank) (functions_of history) ≡ symbols_of (events_at bank history)
  unfolding symbols_of
  symbols_are history h = functions_at history ∙ ap events_symbols (sym (all_events_are bank history h)) ∙ symbols_join ground_history (events_at bank history)

  names_at : (fs : List (Sym × ℕ)) → texts_at bank (map (λ f. f.0) fs) ≡ symbol_names (map (symbol_at bank) fs)
  names_at [] = refl
  names_at (f ∷ fs) = ap (λ xs. text_at bank f.0 ∷ xs) (names_at fs)

  pub function_texts : (entries : List Entry) → texts_at bank (map (λ f. f.0) (functions_of entries)) ≡ symbol_names (events_symbols (all_events_at bank entries))
  function_texts entries = names_at (functions_of entries) ∙ ap symbol_names (functions_at entries)

  pub symbol_texts : (history : List Entry) → HistoryStands bank history → texts_at bank (map (λ f. f.0) (functions_of history)) ≡ symbol_names (symbols_of (events_at bank history))
  symbol_texts history h = names_at (functions_of history) ∙ ap symbol_names (symbols_are history h)

  -- their names stand in the bank
  All-join : {X : Type 0} (P : X → Type 0) (xs ys : List X) → All P xs → All P ys → All P (xs ++ ys)
  All-join P [] ys h k = k
  All-join P (x ∷ xs) ys h k = All-cons P x (xs ++ ys) (All-head P x xs h) (All-join P xs ys (All-tail P x xs h) k)

  abbrev HasName : Sym × ℕ → Type 0
  HasName f = IsNamed bank f.0

  accessors_stand : (parts : List Part) → All (PartStands bank) parts → All HasName (accessor_functions parts)
  accessors_stand [] h = All-none HasName
  accessors_stand (part ∷ parts) h =
      let here : PartStands bank part = All-head (PartStands bank) part parts h in
      All-cons HasName (part.accessor, 1) (accessor_functions parts) here.accessor (accessors_stand parts (All-tail (PartStands bank) part parts h))

  base_stands : (base : Option Sym) → BaseStands bank base → All HasName (base_functions base)
  base_stands None h = All-none HasName
  base_stands (Some s) h = All-cons HasName (s, 0) [] h (All-none HasName)

  shell_stands : (s : Shell) → ShellStands bank s → All HasName (shell_functions s)
  shell_stands s h =
      All-cons HasName (s.constructor, length s.parts.items) (base_functions s.base ++ ((s.recognizer, 1) ∷ accessor_functions s.parts.items)) h.constructor
      (All-join HasName (base_functions s.base) ((s.recognizer, 1) ∷ accessor_functions s.parts.items) (base_stands s.base h.base)
      (All-cons HasName (s.recognizer, 1) (accessor_functions s.parts.items) h.recognizer (accessors_stand s.parts.items h.parts)))

  kind_stands : (name : Sym) (k : EntryKind) → IsNamed bank name → KindStands bank name k → All HasName (kind_functions name k)
  kind_stands name (kind.Shell shell) named h = shell_stands shell h.0
  kind_stands name (kind.Dcl n) named h = All-cons HasName (name, n) [] named (All-none HasName)
  kind_stands name (kind.Defn formals body measure) named h = All-cons HasName (name, length formals.items) [] named (All-none HasName)
  kind_stands name (kind.Axiom classes t) named h = All-none HasName
  kind_stands name (kind.Lemma classes t) named h = All-none HasName
  kind_stands name (kind.Toggle old disabled) named h = All-none HasName

  functions_stand : (entries : List Entry) → All (EntryStands bank) entries → All HasName (functions_of entries)
  functions_stand [] h = All-none HasName
  functions_stand (e ∷ entries) h =
      let here : EntryStands bank e = All-head (EntryStands bank) e entries h in
      All-join HasName (entry_functions e) (functions_of entries) (kind_stands e.name e.kind here.name here.kind) (functions_stand entries (All-tail (EntryStands bank) e entries h))

  names_stand : (fs : List (Sym × ℕ)) → All HasName fs → All (IsNamed bank) (map (λ f. f.0) fs)
  names_stand [] h = All-none (IsNamed bank)
  names_stand (f ∷ fs) h = All-cons (IsNamed bank) f.0 (map (λ g. g.0) fs) (All-head HasName f fs h) (names_stand fs (All-tail HasName f fs h))

  pub symbols_stand : (entries : List Entry) → All (EntryStands bank) entries → All (IsNamed bank) (map (λ f. f.0) (functions_of entries))
  symbols_stand entries h = names_stand (functions_of entries) (functions_stand entries h)

  -- the number of arguments, over ids and over texts
  chosen : (b c : Bool) (n : ℕ) (x y : Option ℕ) → b ≡ c → x ≡ y → (if b then Some n else x) ≡ (if c then Some n else y)
  chosen true true n x y same h = refl
  chosen true false n x y same h = cc
  chosen false true n x y same h = cc
  chosen false false n x y same h = h

  arity_over : (name : Sym) (fs : List (Sym × ℕ)) → IsSound bank → IsNamed bank name → All HasName fs → arity_among name fs ≡ arity_in (map (symbol_at bank) fs) (text_at bank name)
  arity_over name [] sound named h = refl
  arity_over name (f ∷ fs) sound named h =
      chosen (nat_eq name.0 f.0.0) (bytes_eq (text_at bank name) (text_at bank f.0)) f.1 (arity_among name fs) (arity_in (map (symbol_at bank) fs) (text_at bank name))
      (eqb-symbols bank name f.0 sound named (All-head HasName f fs h))
      (arity_over name fs sound named (All-tail HasName f fs h))

  pub arity_is : (name : Sym) (history : List Entry) → IsSound bank → IsNamed bank name → HistoryStands bank history → arity_among name (functions_of history) ≡ arity_in (symbols_of (events_at bank history)) (text_at bank name)
  arity_is name history sound named h =
      arity_over name (functions_of history) sound named (functions_stand history h.entries) ∙ ap (λ fs. arity_in fs (text_at bank name)) (symbols_are history h)
