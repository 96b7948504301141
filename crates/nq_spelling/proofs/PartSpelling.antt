-- A log can spell the names and the parts of a spelled form.
use Rattle.std.proofs.Common.{◌≡◌, Bool, true, false, ℕ, List, [], ◌∷◌, length, refl, ap₂}
use Rattle.std.specs.Prelude.{IsTrue, IfSome, None, Option, Some, nat_le, ◌&&◌, if◌then◌else◌}
use Rattle.std.specs.Option.{option_and_then, option_map}
use Rattle.nq_logic.specs.Terms.{Each, Name}
use Rattle.nq_logic.specs.Histories.{Part, Restriction, OneOf, NoneOf}
use Rattle.nq_logic.specs.ShellPrinciple.{listed}
use Rattle.nq_form.specs.Form.{Form, Forms, symbol, numeral, text, quoted, listed as list, end, dotted, next}
use Rattle.nq_logtext.specs.Symbols.{is_symbol}
use Rattle.nq_language.specs.Abbreviations.{is_word}
use Rattle.nq_log.specs.ClosingLines.{are_short}
use Rattle.nq_block.specs.Closings.{IsBaseSpelled, IsPartSpelled}
use Rattle.nq_events.specs.Outlines.{base_named}
use Rattle.nq_events.specs.Parts.{at_most, each, each_in, elements, name_in, part_by, part_in, part_of, proper, restriction_by, restriction_in, restriction_of, shell_parts_in, symbol_in, symbols_in, with_first}
use Rattle.nq_spelling.specs.Spelled.{AreSpelled, IsSpelled}

-- ---- what is read, where something is

pub weaker_so : {X : Type 0} (P Q : X → Type 0) (o : Option X) → IfSome o P → ((x : X) → P x → Q x) → IfSome o Q
weaker_so P Q None h so = tt
weaker_so P Q (Some x) h so = so x h

pub mapped_so : {X Y : Type 0} (P : X → Type 0) (Q : Y → Type 0) (make : X → Y) (o : Option X) → IfSome o P → ((x : X) → P x → Q (make x)) → IfSome (option_map make o) Q
mapped_so P Q make None h so = tt
mapped_so P Q make (Some x) h so = so x h

pub then_so : {X Y : Type 0} (P : X → Type 0) (Q : Y → Type 0) (go : X → Option Y) (o : Option X) → IfSome o P → ((x : X) → P x → IfSome (go x) Q) → IfSome (option_and_then go o) Q
then_so P Q go None h so = tt
then_so P Q go (Some x) h so = so x h

-- ---- lists

pub proper_spelled : (fs : Forms) → AreSpelled fs → IfSome (proper fs) (Each IsSpelled)
proper_spelled end h = tt
proper_spelled (dotted f) h = tt
proper_spelled (next f fs) h = mapped_so (Each IsSpelled) (Each IsSpelled) (λ rest. f ∷ rest) (proper fs) (proper_spelled fs h.1) (λ rest all. (h.0, all))

nil_or_none : (b : Bool) → IfSome (if b then Some [] else None) (Each IsSpelled)
nil_or_none true = tt
nil_or_none false = tt

pub elements_spelled : (f : Form) → IsSpelled f → IfSome (elements f) (Each IsSpelled)
elements_spelled (symbol name) h = nil_or_none (is_word "NIL" name)
elements_spelled (numeral negative n) h = tt
elements_spelled (text bytes) h = tt
elements_spelled (quoted f) h = tt
elements_spelled (list fs) h = proper_spelled fs h

first_so : {X : Type 0} (P : X → Type 0) (o : Option X) (rest : Option (List X)) → IfSome o P → IfSome rest (Each P) → IfSome (with_first o rest) (Each P)
first_so P (Some x) (Some xs) h k = (h, k)
first_so P (Some x) None h k = tt
first_so P None rest h k = tt

pub each_so : {X : Type 0} (P : X → Type 0) (read : Form → Option X) → ((f : Form) → IsSpelled f → IfSome (read f) P) → (fs : List Form) → Each IsSpelled fs → IfSome (each read fs) (Each P)
each_so P read so [] h = tt
each_so P read so (f ∷ fs) h = first_so P (read f) (each read fs) (so f h.0) (each_so P read so fs h.1)

pub each_in_so : {X : Type 0} (P : X → Type 0) (read : Form → Option X) → ((f : Form) → IsSpelled f → IfSome (read f) P) → (f : Form) → IsSpelled f → IfSome (each_in read f) (Each P)
each_in_so P read so f h = then_so (Each IsSpelled) (Each P) (each read) (elements f) (elements_spelled f h) (λ fs spelled. each_so P read so fs spelled)

-- so many at most
abbrev pub IsShort : {X : Type 0} → (List X → Type 0) → ℕ → List X → Type 0
IsShort P n xs = P xs × (nat_le (length xs) n ≡ true)

short_so : {X : Type 0} (P : List X → Type 0) (n : ℕ) (xs : List X) → P xs → IfSome (at_most n xs) (IsShort P n)
short_so P n xs h = go (nat_le (length xs) n) refl
  where
    go : (b : Bool) → nat_le (length xs) n ≡ b → IfSome (if b then Some xs else None) (IsShort P n)
    go true e = (h, e)
    go false e = tt

-- ---- names

abbrev pub Symbolic : Name → Type 0
Symbolic n = IsTrue (is_symbol n)

pub symbol_spelled : (f : Form) → IsSpelled f → IfSome (symbol_in f) Symbolic
symbol_spelled (symbol n) h = h
symbol_spelled (numeral negative n) h = tt
symbol_spelled (text bytes) h = tt
symbol_spelled (quoted f) h = tt
symbol_spelled (list fs) h = tt

-- a name of at most 240 bytes
abbrev pub IsShortName : Name → Type 0
IsShortName n = IsShort Symbolic 240 n

pub short_name_spelled : (f : Form) → IsSpelled f → IfSome (name_in f) IsShortName
short_name_spelled f h = then_so Symbolic IsShortName (at_most 240) (symbol_in f) (symbol_spelled f h) (short_so Symbolic 240)

pub name_spelled : (f : Form) → IsSpelled f → IfSome (name_in f) Symbolic
name_spelled f h = weaker_so IsShortName Symbolic (name_in f) (short_name_spelled f h) (λ n is. is.0)

-- a base is not NIL, which stands for none
pub base_spelled : (n : Name) → Symbolic n → IsBaseSpelled (base_named n)
base_spelled n h = go (is_word "NIL" n) refl
  where
    go : (b : Bool) → is_word "NIL" n ≡ b → IsBaseSpelled (if b then None else Some n)
    go true e = tt
    go false e = (h, e)

-- ---- parts of shells

abbrev IsShortRestriction : Restriction → Type 0
IsShortRestriction r = IsShort (Each Symbolic) 100 (listed r)

by_word : (word : Name) (rs : List Name) → IsShort (Each Symbolic) 100 rs → IfSome (restriction_by word rs) IsShortRestriction
by_word word rs h = go (is_word "ONE-OF" word) (is_word "NONE-OF" word)
  where
    go : (a b : Bool) → IfSome (if a then Some (OneOf rs) else (if b then Some (NoneOf rs) else None)) IsShortRestriction
    go true b = h
    go false true = h
    go false false = tt

of_names : (names : List Name) → Each Symbolic names → IfSome (restriction_of names) IsShortRestriction
of_names [] h = tt
of_names (word ∷ rs) h = then_so (IsShort (Each Symbolic) 100) IsShortRestriction (restriction_by word) (at_most 100 rs) (short_so (Each Symbolic) 100 rs h.1) (by_word word)

restriction_spelled : (f : Form) → IsSpelled f → IfSome (restriction_in f) IsShortRestriction
restriction_spelled f h = then_so (Each Symbolic) IsShortRestriction restriction_of (symbols_in f) (each_in_so Symbolic symbol_in symbol_spelled f h) of_names

-- the names of the part are symbols in upper case, at most 100 of them recognizers
abbrev pub IsShortPart : Part → Type 0
IsShortPart part = IsPartSpelled part × (nat_le (length (listed part.restriction)) 100 ≡ true)

by_parts : (a : Option Name) (r : Option Restriction) (d : Option Name) → IfSome a Symbolic → IfSome r IsShortRestriction → IfSome d Symbolic → IfSome (part_by a r d) IsShortPart
by_parts (Some a) (Some r) (Some d) h k l = (record { accessor = h; recognizers = k.0; default = l }, k.1)
by_parts (Some a) (Some r) None h k l = tt
by_parts (Some a) None d h k l = tt
by_parts None r d h k l = tt

part_of_so : (fs : List Form) → Each IsSpelled fs → IfSome (part_of fs) IsShortPart
part_of_so (a ∷ r ∷ d ∷ []) h = by_parts (name_in a) (restriction_in r) (symbol_in d) (name_spelled a h.0) (restriction_spelled r h.1.0) (symbol_spelled d h.1.1.0)
part_of_so _ h = tt

part_spelled : (f : Form) → IsSpelled f → IfSome (part_in f) IsShortPart
part_spelled f h = then_so (Each IsSpelled) IsShortPart part_of (elements f) (elements_spelled f h) part_of_so

-- the parts of a shell, 20 at most
abbrev pub AreShortParts : List Part → Type 0
AreShortParts parts = IsShort (Each IsShortPart) 20 parts

pub parts_spelled : (f : Form) → IsSpelled f → IfSome (shell_parts_in f) AreShortParts
parts_spelled f h = then_so (Each IsShortPart) AreShortParts (at_most 20) (each_in part_in f) (each_in_so IsShortPart part_in part_spelled f h) (short_so (Each IsShortPart) 20)

pub each_spelled : (parts : List Part) → Each IsShortPart parts → Each IsPartSpelled parts
each_spelled [] h = tt
each_spelled (part ∷ parts) h = (h.0.0, each_spelled parts h.1)

pub all_short : (parts : List Part) → Each IsShortPart parts → are_short parts ≡ true
all_short [] h = refl
all_short (part ∷ parts) h = ap₂ (λ a b. a && b) h.0.1 (all_short parts h.1)
