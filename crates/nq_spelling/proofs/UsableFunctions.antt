-- The functions of a history that grew by events with new functions are usable.
use Rattle.std.proofs.Common.{◌≡◌, ℕ, Bool, true, false, List, [], ◌∷◌, ◌++◌, inl, inr, refl, ap, sym, subst, ◌∙◌, append_assoc, append-nil}
use Rattle.std.specs.Prelude.{◌⊎◌, ◌||◌, IsTrue, Option, None, Some, bytes_eq, codes, if◌then◌else◌}
use Rattle.std.proofs.lemmas.Slice.Eq.{bytes_eq-Decides}
use Rattle.nq_logtext.specs.Symbols.{is_symbol}
use Rattle.nq_logic.specs.Terms.{Each, IsAmong, Name, Symbol}
use Rattle.nq_logic.specs.Histories.{History, Event, event_symbols, events_symbols}
use Rattle.nq_logic.specs.Ground.{all_events, ground_history, ground_symbols, symbols_of}
use Rattle.nq_logic.specs.Names.{before_event, event_name, events_names, has_name, is_in_use, is_reserved, symbol_names}
use Rattle.nq_logic.specs.Admissible.{AreDistinct}
use Rattle.nq_logic.proofs.Lists.{each_append, each_mono}
use Rattle.nq_logic.proofs.Tests.{names_found_law}
use Rattle.nq_proof.proofs.ShellSymbols.{symbols_join}
use Rattle.nq_proof.proofs.TermTests.{each_left}
use Rattle.nq_block.proofs.Named.{either_list, of_events, of_ground, symbol_named}
use Rattle.nq_language.specs.Abbreviations.{Word, Listing, Conditional, Choice, Binding, Quotation, Nesting, Outside, Plain, is_nesting, is_outside, is_word, other_word, path_of, path_or, word_of}
use Rattle.nq_language.specs.Arities.{arity_in}
use Rattle.nq_language.specs.Printing.{IsUsable}
use Rattle.nq_language.proofs.PrintedSymbols.{ground_is_usable}
use Rattle.nq_abbrev.proofs.ReservedLemmas.{names_are_calls}
use Rattle.nq_spelling.specs.ReadBack.{AddsNewFunctions, GrownIsUsable, HasUsableFunctions, ground, added, undone}
use Rattle.nq_spelling.proofs.SymbolNames.{symbol_is_name}
use Rattle.nq_spelling.proofs.Tests.{none_true}

-- ---- arities in two lists

arity_first : (xs ys : List Symbol) (f : Name) (n : ℕ) → arity_in xs f ≡ Some n → arity_in (xs ++ ys) f ≡ Some n
arity_first [] ys f n e = absurd (cc)
arity_first (x ∷ xs) ys f n e = by_name (bytes_eq f x.0) e (arity_first xs ys f n)
  where
    by_name : (b : Bool) → (if b then Some x.1 else arity_in xs f) ≡ Some n → (arity_in xs f ≡ Some n → arity_in (xs ++ ys) f ≡ Some n) → (if b then Some x.1 else arity_in (xs ++ ys) f) ≡ Some n
    by_name true e rest = e
    by_name false e rest = rest e

same_name : (f g : Name) → bytes_eq f g ≡ true → f ≡ g
same_name f g h = (bytes_eq-Decides f g).0 h

arity_second : (xs ys : List Symbol) (f : Name) → (IsAmong f (symbol_names xs) → ⊥) → arity_in (xs ++ ys) f ≡ arity_in ys f
arity_second [] ys f none = refl
arity_second (x ∷ xs) ys f none = by_name (bytes_eq f x.0) refl (arity_second xs ys f (λ m. none (inr m)))
  where
    by_name : (b : Bool) → bytes_eq f x.0 ≡ b → arity_in (xs ++ ys) f ≡ arity_in ys f → (if b then Some x.1 else arity_in (xs ++ ys) f) ≡ arity_in ys f
    by_name true e rest = absurd (none (inl (same_name f x.0 e)))
    by_name false e rest = rest

-- the arity in both lists is that in the first, for a name of the first
arity_kept : (xs ys : List Symbol) (f : Name) (n : ℕ) → IsAmong f (symbol_names xs) → arity_in (xs ++ ys) f ≡ Some n → arity_in xs f ≡ Some n
arity_kept [] ys f n m e = absurd m
arity_kept (x ∷ xs) ys f n m e = by_name (bytes_eq f x.0) refl m e (arity_kept xs ys f n)
  where
    by_name : (b : Bool) → bytes_eq f x.0 ≡ b → IsAmong f (x.0 ∷ symbol_names xs) → (if b then Some x.1 else arity_in (xs ++ ys) f) ≡ Some n
        → (IsAmong f (symbol_names xs) → arity_in (xs ++ ys) f ≡ Some n → arity_in xs f ≡ Some n) → (if b then Some x.1 else arity_in xs f) ≡ Some n
    by_name true is m e rest = e
    by_name false is (inl same) e rest = absurd (let yes : bytes_eq f x.0 ≡ true = (bytes_eq-Decides f x.0).1 same in let two : true ≡ false = sym yes ∙ is in cc)
    by_name false is (inr m) e rest = rest m e

-- ---- a new name means a function, and is no word that is nested

or_nest : (li co ca le qu n o : Bool)
    → (if li then Listing else (if co then Conditional else (if ca then Choice else (if le then Binding else (if qu then Quotation else (if n then Nesting else (if o then Outside else Plain))))))) ≡ Nesting
    → n ≡ true
or_nest true co ca le qu n o e = absurd (cc)
or_nest false true ca le qu n o e = absurd (cc)
or_nest false false true le qu n o e = absurd (cc)
or_nest false false false true qu n o e = absurd (cc)
or_nest false false false false true n o e = absurd (cc)
or_nest false false false false false true o e = refl
or_nest false false false false false false true e = absurd (cc)
or_nest false false false false false false false e = absurd (cc)

no_path : (w : Word) (o : Option (List ℕ)) → path_or w o ≡ Nesting → w ≡ Nesting
no_path w None e = e
no_path w (Some letters) e = absurd (cc)

word_nests : (f : Name) → word_of f ≡ Nesting → is_nesting f ≡ true
unfolding word_of
word_nests f e =
    or_nest (is_word "LIST" f) (is_word "COND" f) (is_word "CASE" f) (is_word "LET" f) (is_word "QUOTE" f) (is_nesting f) (is_outside f) (no_path (other_word f) (path_of f) e)

one_of_four : (a b c d : Bool) → (a || b || c || d) ≡ true → ((a ≡ true) ⊎ (b ≡ true)) ⊎ ((c ≡ true) ⊎ (d ≡ true))
one_of_four true b c d e = inl (inl refl)
one_of_four false true c d e = inl (inr refl)
one_of_four false false true d e = inr (inl refl)
one_of_four false false false d e = inr (inr e)

-- the functions that are nested are functions of the ground history
nested_in_use : (f : Name) → is_nesting f ≡ true → has_name f (events_names ground_history) ≡ true
nested_in_use f e = elim (one_of_four (is_word "AND" f) (is_word "OR" f) (is_word "PLUS" f) (is_word "TIMES" f) e) [
  | inl h ↦ elim h [
    | inl and ↦ subst (λ (g : Name). has_name g (events_names ground_history) ≡ true) (sym (same_name f (codes "AND") and)) refl
    | inr or ↦ subst (λ (g : Name). has_name g (events_names ground_history) ≡ true) (sym (same_name f (codes "OR") or)) refl
  ]
  | inr h ↦ elim h [
    | inl plus ↦ subst (λ (g : Name). has_name g (events_names ground_history) ≡ true) (sym (same_name f (codes "PLUS") plus)) refl
    | inr times ↦ subst (λ (g : Name). has_name g (events_names ground_history) ≡ true) (sym (same_name f (codes "TIMES") times)) refl
  ]
]

module _ (h : History) (f : Name) (unused : is_in_use f h ≡ false) where
  no_name : IsAmong f (events_names (all_events h)) → ⊥
  no_name m =
      let found : has_name f (events_names (all_events h)) ≡ true = (names_found_law f (events_names (all_events h))).1 m in
      let none : has_name f (events_names (all_events h)) ≡ false = (none_true (is_reserved f) (has_name f (events_names (all_events h))) unused).1 in
      let two : true ≡ false = sym found ∙ none in cc

  new_word : word_of f ≡ Plain
  new_word = elim (names_are_calls f (none_true (is_reserved f) (has_name f (events_names (all_events h))) unused).0) [
    | inl plain ↦ plain
    | inr nesting ↦ absurd (no_name (of_ground h f ((names_found_law f (events_names ground_history)).0 (nested_in_use f (word_nests f nesting)))))
  ]

  named_symbol : (symbols : List Symbol) → IsAmong f (symbol_names symbols) → (s : Symbol) × (s.0 ≡ f) × IsAmong s symbols
  named_symbol [] m = absurd m
  named_symbol (s ∷ symbols) (inl e) = (s, sym e, inl refl)
  named_symbol (s ∷ symbols) (inr m) = let found = named_symbol symbols m in (found.0, found.1, inr found.2)

  new_function : IsAmong f (symbol_names (symbols_of h)) → ⊥
  unfolding symbols_of
  new_function m =
      let found = named_symbol (ground_symbols ++ events_symbols h) m in
      elim (either_list found.0 ground_symbols (events_symbols h) found.2) [
        | inl here ↦ no_name (subst (λ (g : Name). IsAmong g (events_names (all_events h))) found.1 (of_ground h found.0.0 (symbol_named found.0 ground_history here)))
        | inr there ↦ no_name (subst (λ (g : Name). IsAmong g (events_names (all_events h))) found.1 (of_events h found.0.0 (symbol_named found.0 h there)))
      ]

-- ---- one event more

-- the symbols that are new, each with its arity among them
abbrev AreNew : History → List Symbol → Type 0
AreNew h ys = Each (λ s. IsTrue (is_symbol s.0) × (is_in_use s.0 h ≡ false) × (arity_in ys s.0 ≡ Some s.1)) ys

-- a symbol more stands in front, of another name
further : (h : History) (y : Symbol) (ys zs : List Symbol) → (IsAmong y.0 (symbol_names zs) → ⊥)
    → Each (λ s. IsTrue (is_symbol s.0) × (is_in_use s.0 h ≡ false) × (arity_in ys s.0 ≡ Some s.1)) zs
    → Each (λ s. IsTrue (is_symbol s.0) × (is_in_use s.0 h ≡ false) × (arity_in (y ∷ ys) s.0 ≡ Some s.1)) zs
further h y ys [] apart all = tt
further h y ys (z ∷ zs) apart all = ((all.0.0, all.0.1, by_name (bytes_eq z.0 y.0) refl), further h y ys zs (λ m. apart (inr m)) all.1)
  where
    by_name : (b : Bool) → bytes_eq z.0 y.0 ≡ b → (if b then Some y.1 else arity_in ys z.0) ≡ Some z.1
    by_name true is = absurd (apart (inl (sym (same_name z.0 y.0 is))))
    by_name false is = all.0.2

new_symbols : (h : History) (ys : List Symbol) → Each (λ n. IsTrue (is_symbol n)) (symbol_names ys) → Each (λ n. is_in_use n h ≡ false) (symbol_names ys) → AreDistinct (symbol_names ys) → AreNew h ys
new_symbols h [] spelled unused distinct = tt
new_symbols h (y ∷ ys) spelled unused distinct =
    let here : bytes_eq y.0 y.0 ≡ true = (bytes_eq-Decides y.0 y.0).1 refl in (
      (spelled.0, unused.0, ap (λ b. if b then Some y.1 else arity_in ys y.0) here),
      further h y ys ys distinct.0 (new_symbols h ys spelled.1 unused.1 distinct.1),
    )

abbrev AreUsable : List Symbol → Type 0
AreUsable zs = Each (λ s. IsUsable (arity_in zs) s.0 s.1) zs

usable_more : (h : History) (ys : List Symbol) → AreUsable (symbols_of h) → AreNew h ys → AreUsable (symbols_of h ++ ys)
usable_more h ys old new =
    each_append (λ s. IsUsable (arity_in (symbols_of h ++ ys)) s.0 s.1) (symbols_of h) ys
    (each_mono (λ s. IsUsable (arity_in (symbols_of h)) s.0 s.1) (λ s. IsUsable (arity_in (symbols_of h ++ ys)) s.0 s.1)
    (λ s u. record { name = u.name; known = arity_first (symbols_of h) ys s.0 s.1 u.known; word = u.word }) (symbols_of h) old)
    (each_mono (λ s. IsTrue (is_symbol s.0) × (is_in_use s.0 h ≡ false) × (arity_in ys s.0 ≡ Some s.1)) (λ s. IsUsable (arity_in (symbols_of h ++ ys)) s.0 s.1)
    (λ s n. record {
      name = symbol_is_name s.0 n.0;
      known = arity_second (symbols_of h) ys s.0 (new_function h s.0 n.1) ∙ n.2;
      word = inl (new_word h s.0 n.1);
    }) ys new)

one_event : (h : History) (e : Event) → symbols_of (h ++ e ∷ []) ≡ symbols_of h ++ event_symbols e
unfolding symbols_of
one_event h e =
    ap (λ (zs : List Symbol). ground_symbols ++ zs) (symbols_join h (e ∷ []) ∙ ap (λ (zs : List Symbol). events_symbols h ++ zs) (append-nil (event_symbols e)))
    ∙ sym (append_assoc ground_symbols (events_symbols h) (event_symbols e))

usable_grows : (h : History) (e : Event) → HasUsableFunctions h → AddsNewFunctions h e → HasUsableFunctions (h ++ e ∷ [])
usable_grows h e old new = subst AreUsable (sym (one_event h e)) (usable_more h (event_symbols e) old (new_symbols h (event_symbols e) new.spelled new.unused new.distinct))

-- ---- an undo

-- the events before an event are a first part of the history
front_of : (n : Name) (h : History) → (q : History) × (h ≡ before_event n h ++ q)
front_of n [] = ([], refl)
front_of n (e ∷ h) = by_name (bytes_eq n (event_name e)) (front_of n h)
  where
    by_name : (b : Bool) → (q : History) × (h ≡ before_event n h ++ q) → (q : History) × (e ∷ h ≡ (if b then [] else e ∷ before_event n h) ++ q)
    by_name true rest = (e ∷ h, refl)
    by_name false rest = (rest.0, ap (λ (z : History). e ∷ z) rest.1)

symbol_among : (s : Symbol) (zs : List Symbol) → IsAmong s zs → IsAmong s.0 (symbol_names zs)
symbol_among s [] m = absurd m
symbol_among s (z ∷ zs) (inl e) = inl (ap (λ (x : Symbol). x.0) e)
symbol_among s (z ∷ zs) (inr m) = inr (symbol_among s zs m)

usable_front : (xs ys : List Symbol) → AreUsable (xs ++ ys) → AreUsable xs
usable_front xs ys all = go xs (λ s m. m) (each_left (λ s. IsUsable (arity_in (xs ++ ys)) s.0 s.1) xs ys all)
  where
    go : (zs : List Symbol) → ((s : Symbol) → IsAmong s zs → IsAmong s xs) → Each (λ s. IsUsable (arity_in (xs ++ ys)) s.0 s.1) zs → Each (λ s. IsUsable (arity_in xs) s.0 s.1) zs
    go [] within all = tt
    go (z ∷ zs) within all =
        (record { name = all.0.name; known = arity_kept xs ys z.0 z.1 (symbol_among z xs (within z (inl refl))) all.0.known; word = all.0.word }, go zs (λ s m. within s (inr m)) all.1)

parted : (p q : History) → symbols_of (p ++ q) ≡ symbols_of p ++ events_symbols q
unfolding symbols_of
parted p q = ap (λ (zs : List Symbol). ground_symbols ++ zs) (symbols_join p q) ∙ sym (append_assoc ground_symbols (events_symbols p) (events_symbols q))

usable_stays : (h : History) (n : Name) → HasUsableFunctions h → HasUsableFunctions (before_event n h)
usable_stays h n all =
    let front = front_of n h in
    usable_front (symbols_of (before_event n h)) (events_symbols front.0) (subst AreUsable (ap symbols_of front.1 ∙ parted (before_event n h) front.0) all)

pub grown_is_usable : GrownIsUsable
grown_is_usable [] ground = ground_is_usable
grown_is_usable _ (added {h = h} e grown new) = usable_grows h e (grown_is_usable h grown) new
grown_is_usable _ (undone {h = h} n grown) = usable_stays h n (grown_is_usable h grown)
