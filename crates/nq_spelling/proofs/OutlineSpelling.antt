-- The parts of an event that a spelled form asks for are spelled.
use Rattle.std.proofs.Common.{Bool, true, false, List, [], ◌∷◌, ◌^◌}
use Rattle.std.specs.Prelude.{⊤, IfSome, None, Option, Some, Ok, Err, if◌then◌else◌}
use Rattle.nq_logic.specs.Terms.{Each, Name}
use Rattle.nq_form.specs.Form.{Form, Forms, symbol, numeral, text, quoted, listed, end, dotted, next}
use Rattle.nq_form.specs.Widths.{AllNarrow, IsNarrow}
use Rattle.nq_language.specs.Abbreviations.{is_word}
use Rattle.nq_events.specs.Outlines.{Outline, Outlined, BootStrap, AddShell, Dcl, Defn, AddAxiom, ProveLemma, Toggle, Switch, Undo, Skipped, add_axiom_outline, add_shell_outline, boot_strap_outline, dcl_outline, defn_outline, is_left_out, is_skipped, is_theory, miscounted, other_outline, outline, outline_by, outline_of_list, prove_lemma_outline, reader_of, switch_outline, toggle_outline, undo_outline, undotted, with_part}
use Rattle.nq_events.specs.Parts.{measures_in, name_in, proper, shell_parts_in, symbol_in, symbols_in, types_in}
use Rattle.nq_events.specs.Refusals.{Part, NotAnEvent, NamePart, FormalsPart, TypesPart, MeasurePart, HintsPart, PartsPart, out_of_scope}
use Rattle.nq_events.specs.WrittenHints.{hints_in}
use Rattle.nq_spelling.specs.Spelled.{AreSpelled, IsSpelled}
use Rattle.nq_spelling.specs.SpelledEvents.{IsSpelledFunction, IsSpelledShell}
use Rattle.nq_spelling.proofs.FunctionSpelling.{AreFormals, formals_spelled, function_spelled}
use Rattle.nq_spelling.proofs.HintShapes.{IsSpelledHint, hints_spelled}
use Rattle.nq_spelling.proofs.PartSpelling.{AreShortParts, IsShortName, Symbolic, all_short, base_spelled, each_spelled, mapped_so, name_spelled, parts_spelled, short_name_spelled}

-- the names of the event are symbols in upper case, and its terms are spelled forms
abbrev pub OutlineIs : Outline → Type 0
OutlineIs BootStrap = ⊤
OutlineIs (AddShell shell) = IsSpelledShell shell
OutlineIs (Dcl name formals) = IsSpelledFunction name formals
OutlineIs (Defn name formals body measures) = IsSpelledFunction name formals × IsSpelled body
OutlineIs (AddAxiom name types term) = Symbolic name × IsSpelled term
OutlineIs (ProveLemma name types term hints) = Symbolic name × (IsSpelled term × Each IsSpelledHint hints)
OutlineIs (Toggle name old disabled) = Symbolic name
OutlineIs (Switch old disabled) = IsShortName old
OutlineIs (Undo name) = ⊤
OutlineIs Skipped = ⊤

abbrev pub OutlinedIs : Outlined → Type 0
OutlinedIs (Err refusal) = ⊤
OutlinedIs (Ok o) = OutlineIs o

-- spelled, with no list that is too long
abbrev IsText : Form → Type 0
IsText f = IsSpelled f × IsNarrow (2 ^ 25) f

either_is : (b : Bool) (p q : Outlined) → OutlinedIs p → OutlinedIs q → OutlinedIs (if b then p else q)
either_is true p q h k = h
either_is false p q h k = k

with_is : {X : Type 0} (part : Part) (o : Option X) (goes_on : X → Outlined) → ((x : X) → OutlinedIs (goes_on x)) → OutlinedIs (with_part part o goes_on)
with_is part None goes_on each = tt
with_is part (Some x) goes_on each = each x

with_so : {X : Type 0} (part : Part) (o : Option X) (goes_on : X → Outlined) (P : X → Type 0) → IfSome o P → ((x : X) → P x → OutlinedIs (goes_on x)) → OutlinedIs (with_part part o goes_on)
with_so part None goes_on P so each = tt
with_so part (Some x) goes_on P so each = each x so

-- ---- the events, each by what stands behind its word

boot_strap_is : (forms : List Form) → OutlinedIs (boot_strap_outline forms)
boot_strap_is [] = tt
boot_strap_is (theory ∷ []) = either_is (is_theory theory) (Ok BootStrap) miscounted tt tt
boot_strap_is (theory ∷ (more ∷ rest)) = tt

add_shell_is : (forms : List Form) → Each IsText forms → OutlinedIs (add_shell_outline forms)
add_shell_is (c ∷ b ∷ r ∷ ps ∷ []) h =
    with_so NamePart (name_in c) _ Symbolic (name_spelled c h.0.0)
    (λ c c_is. with_so NamePart (name_in b) _ Symbolic (name_spelled b h.1.0.0)
    (λ b b_is. with_so NamePart (name_in r) _ Symbolic (name_spelled r h.1.1.0.0)
    (λ r r_is. with_so PartsPart (shell_parts_in ps) _ AreShortParts (parts_spelled ps h.1.1.1.0.0)
    (λ ps ps_are. record {
      constructor_spelled = c_is;
      base_spelled = base_spelled b b_is;
      recognizer_spelled = r_is;
      parts_spelled = each_spelled ps ps_are.0;
      few = ps_are.1;
      short = all_short ps ps_are.0;
    }))))
add_shell_is _ h = tt

-- a name and formals, and then what goes on with them
function_is : (name formals : Form) (goes_on : Name → List Name → Outlined) → IsText name → IsText formals → ((n : Name) (xs : List Name) → IsSpelledFunction n xs → OutlinedIs (goes_on n xs))
    → OutlinedIs (with_part NamePart (name_in name) (λ n. with_part FormalsPart (symbols_in formals) (λ xs. goes_on n xs)))
function_is name formals goes_on h k so =
    with_so NamePart (name_in name) _ Symbolic (name_spelled name h.0)
    (λ n n_is. with_so FormalsPart (symbols_in formals) _ AreFormals (formals_spelled formals k.0 k.1) (λ xs xs_are. so n xs (function_spelled n xs n_is xs_are)))

dcl_is : (forms : List Form) → Each IsText forms → OutlinedIs (dcl_outline forms)
dcl_is (name ∷ formals ∷ []) h = function_is name formals (λ n xs. Ok (Dcl n xs)) h.0 h.1.0 (λ n xs is. is)
dcl_is _ h = tt

defn_is : (forms : List Form) → Each IsText forms → OutlinedIs (defn_outline forms)
defn_is (name ∷ formals ∷ body ∷ []) h = function_is name formals (λ n xs. Ok (Defn n xs body [])) h.0 h.1.0 (λ n xs is. (is, h.1.1.0.0))
defn_is (name ∷ formals ∷ body ∷ measures ∷ []) h =
    function_is name formals (λ n xs. with_part MeasurePart (measures_in measures) (λ ms. Ok (Defn n xs body ms))) h.0 h.1.0
    (λ n xs is. with_is MeasurePart (measures_in measures) _ (λ ms. (is, h.1.1.0.0)))
defn_is _ h = tt

add_axiom_is : (forms : List Form) → Each IsText forms → OutlinedIs (add_axiom_outline forms)
add_axiom_is (name ∷ types ∷ term ∷ []) h =
    with_so NamePart (name_in name) _ Symbolic (name_spelled name h.0.0) (λ n spelled. with_is TypesPart (types_in types) _ (λ ts. (spelled, h.1.1.0.0)))
add_axiom_is _ h = tt

prove_lemma_is : (forms : List Form) → Each IsText forms → OutlinedIs (prove_lemma_outline forms)
prove_lemma_is (name ∷ types ∷ term ∷ []) h =
    with_so NamePart (name_in name) _ Symbolic (name_spelled name h.0.0) (λ n spelled. with_is TypesPart (types_in types) _ (λ ts. (spelled, (h.1.1.0.0, tt))))
prove_lemma_is (name ∷ types ∷ term ∷ hints ∷ []) h =
    with_so NamePart (name_in name) _ Symbolic (name_spelled name h.0.0)
    (λ n spelled. with_is TypesPart (types_in types) _ (λ ts. with_so HintsPart (hints_in hints) _ (Each IsSpelledHint) (hints_spelled hints h.1.1.1.0.0) (λ hs hs_are. (spelled, (h.1.1.0.0, hs_are)))))
prove_lemma_is _ h = tt

toggle_is : (forms : List Form) → Each IsText forms → OutlinedIs (toggle_outline forms)
toggle_is (name ∷ old ∷ flag ∷ []) h = with_so NamePart (name_in name) _ Symbolic (name_spelled name h.0.0) (λ n spelled. with_is NamePart (symbol_in old) _ (λ o. spelled))
toggle_is _ h = tt

switch_is : (disabled : Bool) (forms : List Form) → Each IsText forms → OutlinedIs (switch_outline disabled forms)
switch_is disabled (old ∷ []) h = with_so NamePart (name_in old) _ IsShortName (short_name_spelled old h.0.0) (λ o is. is)
switch_is disabled _ h = tt

undo_is : (forms : List Form) → OutlinedIs (undo_outline forms)
undo_is (name ∷ []) = with_is NamePart (symbol_in name) _ (λ n. tt)
undo_is _ = tt

-- ---- the outline of a form

abbrev ReaderIs : Option (List Form → Outlined) → Type 0
ReaderIs None = ⊤
ReaderIs (Some read) = (forms : List Form) → Each IsText forms → OutlinedIs (read forms)

reader_or : (b : Bool) (read : List Form → Outlined) (o : Option (List Form → Outlined)) → ReaderIs (Some read) → ReaderIs o → ReaderIs (if b then Some read else o)
reader_or true read o h k = h
reader_or false read o h k = k

reader_is : (word : Name) → ReaderIs (reader_of word)
reader_is word =
    reader_or (is_word "BOOT-STRAP" word) boot_strap_outline _ (λ fs h. boot_strap_is fs)
    (reader_or (is_word "ADD-SHELL" word) add_shell_outline _ add_shell_is
    (reader_or (is_word "DCL" word) dcl_outline _ dcl_is
    (reader_or (is_word "DEFN" word) defn_outline _ defn_is
    (reader_or (is_word "ADD-AXIOM" word) add_axiom_outline _ add_axiom_is
    (reader_or (is_word "PROVE-LEMMA" word) prove_lemma_outline _ prove_lemma_is
    (reader_or (is_word "TOGGLE" word) toggle_outline _ toggle_is
    (reader_or (is_word "DISABLE" word) (switch_outline true) _ (switch_is true)
    (reader_or (is_word "ENABLE" word) (switch_outline false) _ (switch_is false)
    (reader_or (is_word "UNDO-BACK-THROUGH" word) undo_outline _ (λ fs h. undo_is fs) tt)))))))))

other_is : (word : Name) → OutlinedIs (other_outline word)
other_is word = either_is (is_skipped word) (Ok Skipped) _ tt (either_is (is_left_out word) (Err (out_of_scope word)) (Err NotAnEvent) tt tt)

-- each form of a list with no dot
proper_text : (fs : Forms) → AreSpelled fs → AllNarrow (2 ^ 25) fs → IfSome (proper fs) (Each IsText)
proper_text end h k = tt
proper_text (dotted f) h k = tt
proper_text (next f fs) h k = mapped_so (Each IsText) (Each IsText) (λ rest. f ∷ rest) (proper fs) (proper_text fs h.1 k.1) (λ rest all. ((h.0, k.0), all))

undotted_is : (read : List Form → Outlined) (o : Option (List Form)) → ReaderIs (Some read) → IfSome o (Each IsText) → OutlinedIs (undotted read o)
undotted_is read None h k = tt
undotted_is read (Some forms) h k = h forms k

by_reader : (word : Name) (o : Option (List Form → Outlined)) (rest : Forms) → ReaderIs o → IfSome (proper rest) (Each IsText) → OutlinedIs (outline_by word o rest)
by_reader word None rest h k = other_is word
by_reader word (Some read) rest h k = undotted_is read (proper rest) h k

list_is : (fs : Forms) → AreSpelled fs → AllNarrow (2 ^ 25) fs → OutlinedIs (outline_of_list fs)
list_is (next (symbol word) rest) h k = by_reader word (reader_of word) rest (reader_is word) (proper_text rest h.1 k.1)
list_is _ h k = tt

pub outline_is : (f : Form) → IsSpelled f → IsNarrow (2 ^ 25) f → OutlinedIs (outline f)
unfolding outline
outline_is (symbol name) h k = tt
outline_is (numeral negative n) h k = tt
outline_is (text bytes) h k = tt
outline_is (quoted f) h k = tt
outline_is (listed fs) h k = list_is fs h k.1
