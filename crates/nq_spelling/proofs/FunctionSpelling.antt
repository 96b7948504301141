-- A log can spell the formals of a function, of which a form has not too many.
use Rattle.std.proofs.Common.{ℕ, Bool, true, false, List, [], ◌∷◌, length, ◌≤◌, ◌+◌, ◌^◌, arith}
use Rattle.std.specs.Prelude.{IfSome, None, Option, Some, if◌then◌else◌}
use Rattle.nq_logic.specs.Terms.{Each, Name}
use Rattle.nq_form.specs.Form.{Form, Forms, symbol, numeral, text, quoted, listed, end, dotted, next}
use Rattle.nq_form.specs.Widths.{IsNarrow, count}
use Rattle.nq_language.specs.Abbreviations.{is_word}
use Rattle.nq_events.specs.Parts.{each, elements, proper, symbol_in, symbols_in, with_first}
use Rattle.nq_spelling.specs.Spelled.{IsSpelled}
use Rattle.nq_spelling.specs.SpelledEvents.{IsSpelledFunction}
use Rattle.nq_spelling.proofs.PartSpelling.{Symbolic, each_in_so, mapped_so, symbol_spelled, then_so, weaker_so}

-- at most so many
abbrev AreAtMost : {X : Type 0} → ℕ → List X → Type 0
AreAtMost n xs = length xs ≤ n

proper_count : (fs : Forms) → IfSome (proper fs) (AreAtMost (count fs))
proper_count end = omega arith
proper_count (dotted f) = tt
proper_count (next f fs) = mapped_so (AreAtMost (count fs)) (AreAtMost (count (next f fs))) (λ rest. f ∷ rest) (proper fs) (proper_count fs) (λ rest le. omega arith)

fewer : {X : Type 0} (m n : ℕ) (o : Option (List X)) → m ≤ n → IfSome o (AreAtMost m) → IfSome o (AreAtMost n)
fewer m n o le h = weaker_so (AreAtMost m) (AreAtMost n) o h (λ xs few. omega arith)

nil_count : (most : ℕ) (b : Bool) → IfSome (if b then Some [] else None) (AreAtMost {X = Form} most)
nil_count most true = omega arith
nil_count most false = tt

elements_count : (most : ℕ) (f : Form) → IsNarrow most f → IfSome (elements f) (AreAtMost most)
elements_count most (symbol name) h = nil_count most (is_word "NIL" name)
elements_count most (numeral negative n) h = tt
elements_count most (text bytes) h = tt
elements_count most (quoted f) h = tt
elements_count most (listed fs) h = fewer (count fs) most (proper fs) h.0 (proper_count fs)

one_more : {X : Type 0} (n : ℕ) (o : Option X) (rest : Option (List X)) → IfSome rest (AreAtMost n) → IfSome (with_first o rest) (AreAtMost (n + 1))
one_more n (Some x) (Some xs) h = omega arith
one_more n (Some x) None h = tt
one_more n None rest h = tt

each_count : {X : Type 0} (read : Form → Option X) (fs : List Form) → IfSome (each read fs) (AreAtMost (length fs))
each_count read [] = omega arith
each_count read (f ∷ fs) = fewer (length fs + 1) (length (f ∷ fs)) (with_first (read f) (each read fs)) (omega arith) (one_more (length fs) (read f) (each read fs) (each_count read fs))

symbols_count : (most : ℕ) (f : Form) → IsNarrow most f → IfSome (symbols_in f) (AreAtMost most)
symbols_count most f h =
    then_so (AreAtMost most) (AreAtMost most) (each symbol_in) (elements f) (elements_count most f h) (λ fs le. fewer (length fs) most (each symbol_in fs) le (each_count symbol_in fs))

-- symbols in upper case, and not too many
abbrev pub AreFormals : List Name → Type 0
AreFormals xs = Each Symbolic xs × (length xs ≤ 2 ^ 25)

both_so : {X : Type 0} (P Q : X → Type 0) (o : Option X) → IfSome o P → IfSome o Q → IfSome o (λ x. P x × Q x)
both_so P Q None h k = tt
both_so P Q (Some x) h k = (h, k)

pub formals_spelled : (f : Form) → IsSpelled f → IsNarrow (2 ^ 25) f → IfSome (symbols_in f) AreFormals
formals_spelled f spelled narrow = both_so (Each Symbolic) (AreAtMost (2 ^ 25)) (symbols_in f) (each_in_so Symbolic symbol_in symbol_spelled f spelled) (symbols_count (2 ^ 25) f narrow)

pub function_spelled : (name : Name) (formals : List Name) → Symbolic name → AreFormals formals → IsSpelledFunction name formals
function_spelled name formals spelled are = record { symbol = spelled; formals_spelled = are.0; few = omega (arith, are.1) }
