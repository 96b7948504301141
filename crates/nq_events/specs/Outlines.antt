-- An event as it is written: its parts in their shapes, its terms still forms.
use Rattle.std.specs.Prelude.{ℕ, Bool, true, false, if◌then◌else◌, List, [], ◌∷◌, Option, None, Some, Result, Ok, Err, not, ◌||◌}
use Rattle.nq_logic.specs.Terms.{Name}
use Rattle.nq_logic.specs.Histories.{Shell}
use Rattle.nq_form.specs.Form.{Form, Forms, symbol, numeral, text, quoted, listed, end, next}
use Rattle.nq_language.specs.Abbreviations.{is_word}
use Rattle.nq_events.specs.Refusals.{Refusal, NotAnEvent, BadShape, Part, WholeForm, NamePart, FormalsPart, TypesPart, MeasurePart, HintsPart, PartsPart, out_of_scope}
use Rattle.nq_events.specs.Parts.{proper, symbol_in, symbols_in, name_in, TypeWord, types_in, WrittenMeasure, measures_in, shell_parts_in}
use Rattle.nq_events.specs.WrittenHints.{WrittenHint, hints_in}

pub data Outline : Type 0 where
  BootStrap : Outline
  AddShell : (shell : Shell) → Outline
  Dcl : (name : List ℕ) (formals : List (List ℕ)) → Outline
  Defn : (name : List ℕ) (formals : List (List ℕ)) (body : Form) (measures : List WrittenMeasure) → Outline
  AddAxiom : (name : List ℕ) (types : List TypeWord) (term : Form) → Outline
  ProveLemma : (name : List ℕ) (types : List TypeWord) (term : Form) (hints : List WrittenHint) → Outline
  Toggle : (name old : List ℕ) (disabled : Bool) → Outline
  -- a toggle whose name is still to be made up
  Switch : (old : List ℕ) (disabled : Bool) → Outline
  Undo : (name : List ℕ) → Outline
  Skipped : Outline

abbrev pub Outlined : Type 0
Outlined = Result Outline Refusal

-- 21: the part of this name where it has its shape, and then what goes on with it
abbrev pub with_part : {X : Type 0} → Part → Option X → (X → Outlined) → Outlined
with_part part None goes_on = Err (BadShape part)
with_part part (Some x) goes_on = goes_on x

-- 21 form: a wrong count of elements
abbrev pub miscounted : Outlined
miscounted = Err (BadShape WholeForm)

abbrev pub is_theory : Form → Bool
is_theory (symbol name) = is_word "NQTHM" name || is_word "THM" name
is_theory _ = false

-- with NQTHM or THM or nothing
abbrev pub boot_strap_outline : List Form → Outlined
boot_strap_outline [] = Ok BootStrap
boot_strap_outline (theory ∷ []) = if is_theory theory then Ok BootStrap else miscounted
boot_strap_outline _ = miscounted

-- the base of this name, of which NIL means none
abbrev pub base_named : Name → Option Name
base_named name = if is_word "NIL" name then None else Some name

abbrev pub add_shell_outline : List Form → Outlined
add_shell_outline (constructor ∷ base ∷ recognizer ∷ parts ∷ []) =
    with_part NamePart (name_in constructor) (λ c. with_part NamePart (name_in base) (λ b. with_part NamePart (name_in recognizer) (λ r.
    with_part PartsPart (shell_parts_in parts) (λ ps. Ok (AddShell (record { constructor = c; base = base_named b; recognizer = r; parts = ps }))))))
add_shell_outline _ = miscounted

-- a new function's name and its formals
abbrev pub named_with_formals : Form → Form → (Name → List Name → Outlined) → Outlined
named_with_formals name formals goes_on = with_part NamePart (name_in name) (λ n. with_part FormalsPart (symbols_in formals) (λ xs. goes_on n xs))

abbrev pub dcl_outline : List Form → Outlined
dcl_outline (name ∷ formals ∷ []) = named_with_formals name formals (λ n xs. Ok (Dcl n xs))
dcl_outline _ = miscounted

abbrev pub defn_outline : List Form → Outlined
defn_outline (name ∷ formals ∷ body ∷ []) = named_with_formals name formals (λ n xs. Ok (Defn n xs body []))
defn_outline (name ∷ formals ∷ body ∷ measures ∷ []) =
    named_with_formals name formals (λ n xs. with_part MeasurePart (measures_in measures) (λ ms. Ok (Defn n xs body ms)))
defn_outline _ = miscounted

-- the name and the types of an axiom or a lemma
abbrev pub named_with_types : Form → Form → (Name → List TypeWord → Outlined) → Outlined
named_with_types name types goes_on = with_part NamePart (name_in name) (λ n. with_part TypesPart (types_in types) (λ ts. goes_on n ts))

abbrev pub add_axiom_outline : List Form → Outlined
add_axiom_outline (name ∷ types ∷ term ∷ []) = named_with_types name types (λ n ts. Ok (AddAxiom n ts term))
add_axiom_outline _ = miscounted

abbrev pub prove_lemma_outline : List Form → Outlined
prove_lemma_outline (name ∷ types ∷ term ∷ []) = named_with_types name types (λ n ts. Ok (ProveLemma n ts term []))
prove_lemma_outline (name ∷ types ∷ term ∷ hints ∷ []) =
    named_with_types name types (λ n ts. with_part HintsPart (hints_in hints) (λ hs. Ok (ProveLemma n ts term hs)))
prove_lemma_outline _ = miscounted

-- whether a flag is NIL, or the empty list, which is the same
abbrev pub is_nil : Form → Bool
is_nil (symbol name) = is_word "NIL" name
is_nil (listed end) = true
is_nil _ = false

-- the old name may be of any length
abbrev pub toggle_outline : List Form → Outlined
toggle_outline (name ∷ old ∷ flag ∷ []) = with_part NamePart (name_in name) (λ n. with_part NamePart (symbol_in old) (λ o. Ok (Toggle n o (not (is_nil flag)))))
toggle_outline _ = miscounted

abbrev pub switch_outline : Bool → List Form → Outlined
switch_outline disabled (old ∷ []) = with_part NamePart (name_in old) (λ o. Ok (Switch o disabled))
switch_outline disabled _ = miscounted

-- the name may be of any length
abbrev pub undo_outline : List Form → Outlined
undo_outline (name ∷ []) = with_part NamePart (symbol_in name) (λ n. Ok (Undo n))
undo_outline _ = miscounted

-- 21 form: the event is dotted
abbrev pub undotted : (List Form → Outlined) → Option (List Form) → Outlined
undotted goes_on None = miscounted
undotted goes_on (Some forms) = goes_on forms

-- the words of forms that are passed over
abbrev pub is_skipped : Name → Bool
is_skipped word = is_word "SETQ" word || is_word "COMPILE-UNCOMPILED-DEFNS" word || is_word "MAKE-LIB" word || is_word "IN-PACKAGE" word

-- the words of events that the program leaves out
abbrev pub is_left_out : Name → Bool
is_left_out word =
    is_word "NOTE-LIB" word || is_word "CONSTRAIN" word || is_word "FUNCTIONALLY-INSTANTIATE" word || is_word "BREAK-LEMMA" word
    || is_word "UNBREAK-LEMMA" word || is_word "UNDO-NAME" word || is_word "DEFTHEORY" word

-- how the events of this word are read, if it is the word of events
abbrev pub reader_of : Name → Option (List Form → Outlined)
reader_of word =
    if is_word "BOOT-STRAP" word then Some boot_strap_outline
    else (if is_word "ADD-SHELL" word then Some add_shell_outline
    else (if is_word "DCL" word then Some dcl_outline
    else (if is_word "DEFN" word then Some defn_outline
    else (if is_word "ADD-AXIOM" word then Some add_axiom_outline
    else (if is_word "PROVE-LEMMA" word then Some prove_lemma_outline
    else (if is_word "TOGGLE" word then Some toggle_outline
    else (if is_word "DISABLE" word then Some (switch_outline true)
    else (if is_word "ENABLE" word then Some (switch_outline false)
    else (if is_word "UNDO-BACK-THROUGH" word then Some undo_outline else None)))))))))

-- 20, or 12 for the word
abbrev pub other_outline : Name → Outlined
other_outline word = if is_skipped word then Ok Skipped else (if is_left_out word then Err (out_of_scope word) else Err NotAnEvent)

abbrev pub outline_by : Name → Option (List Form → Outlined) → Forms → Outlined
outline_by word (Some read) rest = undotted read (proper rest)
outline_by word None rest = other_outline word

abbrev pub outline_of_list : Forms → Outlined
outline_of_list (next (symbol word) rest) = outline_by word (reader_of word) rest
outline_of_list _ = Err NotAnEvent

-- The outline of an event form, or the first refusal for its word and for the shapes of its parts.
unfoldable pub outline : Form → Outlined
outline (symbol name) = Err NotAnEvent
outline (numeral negative n) = Err NotAnEvent
outline (text bytes) = Err NotAnEvent
outline (quoted f) = Err NotAnEvent
outline (listed fs) = outline_of_list fs
