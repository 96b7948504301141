-- Forms that are no events, parts of wrong shapes, and the order of refusals.
use Rattle.std.specs.Prelude.{◌≡◌, ℕ, zero, suc, [], ◌∷◌, codes, Some}
use Rattle.nq_logic.specs.Terms.{Name}
use Rattle.nq_form.specs.Form.{Form, symbol, listed, end, next}
use Rattle.nq_events.specs.Events.{BootStrap, Skipped}
use Rattle.nq_events.specs.Refusals.{BadShape, NamePart, NoSuchEvent}
use Rattle.nq_events.specs.Told.{refusal, IsRefused, IsAllowed, AsksFor}

-- a symbol of so many letters A
abbrev pub letters : ℕ → Name
letters zero = []
letters (suc n) = 65 ∷ letters n

-- (UNDO-BACK-THROUGH name)
abbrev pub undo_form : Name → Form
undo_form name = listed (next (symbol (codes "UNDO-BACK-THROUGH")) (next (symbol name) end))

-- (DISABLE name)
abbrev pub disable_form : Name → Form
disable_form name = listed (next (symbol (codes "DISABLE")) (next (symbol name) end))

pub record WordsRefused : Type 0 where
  pub outside : IsRefused [] "(PROVE-LEMMA P1 NIL (EQUAL (EVAL$ T X A) X))" 12 ("OutOfScope" ∷ "EVAL$" ∷ [])
  pub left_out : IsRefused [] "(NOTE-LIB X)" 12 ("OutOfScope" ∷ "NOTE-LIB" ∷ [])
  pub skipped : AsksFor [] "(SETQ A NIL)" Skipped
  pub booted : AsksFor [] "(BOOT-STRAP NQTHM)" BootStrap
  pub symbol : IsRefused [] "X" 20 ("NotAnEvent" ∷ [])
  pub list : IsRefused [] "((A))" 20 ("NotAnEvent" ∷ [])
  pub unknown : IsRefused [] "(FROB X)" 20 ("NotAnEvent" ∷ [])
  pub empty : IsRefused [] "()" 20 ("NotAnEvent" ∷ [])
  pub quoted : IsRefused [] "'(DCL D (X))" 20 ("NotAnEvent" ∷ [])

pub record ShapesRefused : Type 0 where
  pub theory : IsRefused [] "(BOOT-STRAP NIL)" 21 ("BadShape" ∷ "form" ∷ [])
  pub count : IsRefused [] "(DCL 7)" 21 ("BadShape" ∷ "form" ∷ [])
  pub dotted : IsRefused [] "(DCL D . X)" 21 ("BadShape" ∷ "form" ∷ [])
  pub name : IsRefused [] "(DCL 7 X)" 21 ("BadShape" ∷ "name" ∷ [])
  -- the empty list is no name
  pub no_base : IsRefused [] "(ADD-SHELL A () R NIL)" 21 ("BadShape" ∷ "name" ∷ [])
  pub formals : IsRefused [] "(DCL D (X 7))" 21 ("BadShape" ∷ "formals" ∷ [])
  pub dotted_formals : IsRefused [] "(DEFN D (X . Y) (FOO))" 21 ("BadShape" ∷ "formals" ∷ [])
  pub no_formals : IsAllowed [] "(DCL D NIL)"
  pub types : IsRefused [] "(ADD-AXIOM A REWRITE T)" 21 ("BadShape" ∷ "types" ∷ [])
  pub unknown_type : IsRefused [] "(PROVE-LEMMA L ((META) FOO) T)" 21 ("BadShape" ∷ "types" ∷ [])
  pub measure : IsRefused [] "(DEFN D (X) (FOO) ((LESSP)))" 21 ("BadShape" ∷ "measure" ∷ [])
  pub no_measure : IsAllowed [] "(DEFN D (X) X NIL)"
  pub hints : IsRefused [] "(PROVE-LEMMA L NIL (FOO) (USE))" 21 ("BadShape" ∷ "hints" ∷ [])
  pub parts : IsRefused [] "(ADD-SHELL A NIL R ((B (ONE-OF))))" 21 ("BadShape" ∷ "parts" ∷ [])
  pub restriction : IsRefused [] "(ADD-SHELL A NIL R ((B NIL ZERO)))" 21 ("BadShape" ∷ "parts" ∷ [])
  pub long_name : refusal [] (disable_form (letters 241)) ≡ Some (BadShape NamePart)
  pub full_name : refusal [] (disable_form (letters 240)) ≡ Some (NoSuchEvent (letters 240))
  pub long_undo : refusal [] (undo_form (letters 241)) ≡ Some (NoSuchEvent (letters 241))

-- the earlier of two refusals
pub record RefusalsInOrder : Type 0 where
  pub shapes : IsRefused [] "(PROVE-LEMMA 7 FOO (FOO) USE)" 21 ("BadShape" ∷ "name" ∷ [])
  pub shape_before_term : IsRefused [] "(PROVE-LEMMA L NIL (FOO) USE)" 21 ("BadShape" ∷ "hints" ∷ [])
  pub meta : IsRefused [] "(PROVE-LEMMA L ((META FOO)) (FOO))" 12 ("OutOfScope" ∷ "META" ∷ [])
  pub dotted_meta : IsRefused [] "(ADD-AXIOM L (REWRITE (META . X)) T)" 12 ("OutOfScope" ∷ "META" ∷ [])
  pub body_before_measure : IsRefused [] "(DEFN D (X) (FOO X) ((LESSP (BAR X))))" 10 ("UnknownFunction" ∷ "FOO" ∷ [])
  pub measure_before_own : IsRefused [] "(DEFN PLUS (X) X ((LESSP (BAR X))))" 10 ("UnknownFunction" ∷ "BAR" ∷ [])
  pub term_before_hint : IsRefused [] "(PROVE-LEMMA L NIL (FOO) ((INDUCT (BAR))))" 10 ("UnknownFunction" ∷ "FOO" ∷ [])
  pub term_of_hint_before_hint : IsRefused [] "(PROVE-LEMMA L NIL T ((GUESS T) (EXPAND (BAR))))" 10 ("UnknownFunction" ∷ "BAR" ∷ [])
  pub hint_before_own : IsRefused [] "(PROVE-LEMMA PLUS NIL T ((GUESS T)))" 22 ("BadHint" ∷ "GUESS" ∷ [])
