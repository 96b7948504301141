-- The hints of a spelled form are spelled.
use Rattle.std.proofs.Common.{Bool, true, false, List, [], ◌∷◌}
use Rattle.std.specs.Prelude.{⊤, IfSome, None, Option, Some, if◌then◌else◌}
use Rattle.std.specs.Option.{option_and_then, option_map}
use Rattle.nq_logic.specs.Terms.{Each, Name}
use Rattle.nq_form.specs.Form.{Form, Forms, symbol, numeral, text, quoted, listed, end, dotted, next}
use Rattle.nq_language.specs.Abbreviations.{is_word}
use Rattle.nq_events.specs.Parts.{each, elements, proper, symbol_in}
use Rattle.nq_events.specs.WrittenHints.{WrittenPair, WrittenInstance, WrittenHint, HintKind, Use, Enable, Disable, Expand, Induct, DoNotInduct, DoNotGeneralize, HandsOff, NoArithmetic, Time, hint_in, hint_of, hints_in, instance_by, instance_in, instance_of, kind_of, pair_in, pair_of, single, switched}
use Rattle.nq_spelling.specs.Spelled.{AreSpelled, IsSpelled}
use Rattle.nq_spelling.proofs.PartSpelling.{Symbolic, each_in_so, each_so, elements_spelled, mapped_so, proper_spelled, symbol_spelled, then_so}

-- the variable is a symbol in upper case, and so is each symbol of the form
abbrev pub IsSpelledPair : WrittenPair → Type 0
IsSpelledPair p = Symbolic p.variable × IsSpelled p.form

abbrev pub IsSpelledInstance : WrittenInstance → Type 0
IsSpelledInstance i = Each IsSpelledPair i.pairs

-- the forms of the hint, and the variables in whose place it puts terms
abbrev pub IsSpelledKind : HintKind → Type 0
IsSpelledKind (Use instances) = Each IsSpelledInstance instances
IsSpelledKind (Enable names) = ⊤
IsSpelledKind (Disable names) = ⊤
IsSpelledKind (Expand forms) = Each IsSpelled forms
IsSpelledKind (Induct form) = IsSpelled form
IsSpelledKind DoNotInduct = ⊤
IsSpelledKind DoNotGeneralize = ⊤
IsSpelledKind (HandsOff functions) = ⊤
IsSpelledKind NoArithmetic = ⊤
IsSpelledKind Time = ⊤

abbrev pub IsSpelledHint : WrittenHint → Type 0
IsSpelledHint hint = IfSome hint.kind IsSpelledKind

-- ---- instances

pair_of_so : (fs : List Form) → Each IsSpelled fs → IfSome (pair_of fs) IsSpelledPair
pair_of_so (name ∷ value ∷ []) h = mapped_so Symbolic IsSpelledPair (λ x. record { variable = x; form = value }) (symbol_in name) (symbol_spelled name h.0) (λ x is. (is, h.1.0))
pair_of_so _ h = tt

pair_so : (f : Form) → IsSpelled f → IfSome (pair_in f) IsSpelledPair
pair_so f h = then_so (Each IsSpelled) IsSpelledPair pair_of (elements f) (elements_spelled f h) pair_of_so

by_name : (o : Option Name) (ps : Option (List WrittenPair)) → IfSome ps (Each IsSpelledPair) → IfSome (instance_by o ps) IsSpelledInstance
by_name (Some event) (Some ps) h = h
by_name (Some event) None h = tt
by_name None ps h = tt

instance_of_so : (fs : List Form) → Each IsSpelled fs → IfSome (instance_of fs) IsSpelledInstance
instance_of_so [] h = tt
instance_of_so (event ∷ replaced) h = by_name (symbol_in event) (each pair_in replaced) (each_so IsSpelledPair pair_in pair_so replaced h.1)

instance_so : (f : Form) → IsSpelled f → IfSome (instance_in f) IsSpelledInstance
instance_so f h = then_so (Each IsSpelled) IsSpelledInstance instance_of (elements f) (elements_spelled f h) instance_of_so

-- ---- kinds

single_so : (fs : List Form) → Each IsSpelled fs → IfSome (single fs) IsSpelled
single_so (f ∷ []) h = h.0
single_so _ h = tt

any_some : {X : Type 0} (o : Option X) → IfSome o (λ x. ⊤)
any_some None = tt
any_some (Some x) = tt

switched_so : (kind : HintKind) (fs : List Form) → IsSpelledKind kind → IfSome (switched kind fs) IsSpelledKind
switched_so kind (symbol x ∷ []) h = by_flag (is_word "T" x) where
  by_flag : (b : Bool) → IfSome (if b then Some kind else None) IsSpelledKind
  by_flag true = h
  by_flag false = tt
switched_so kind _ h = tt

one_or : (b : Bool) (o rest : Option HintKind) → IfSome o IsSpelledKind → IfSome rest IsSpelledKind → IfSome (if b then o else rest) IsSpelledKind
one_or true o rest h k = h
one_or false o rest h k = k

-- a hint that says names alone
names_so : {X : Type 0} (say : X → HintKind) → ((x : X) → IsSpelledKind (say x)) → (o : Option X) → IfSome (option_map say o) IsSpelledKind
names_so say so o = mapped_so (λ x. ⊤) IsSpelledKind say o (any_some o) (λ x h. so x)

kind_so : (word : Name) (fs : List Form) → Each IsSpelled fs → IfSome (kind_of word fs) IsSpelledKind
kind_so word fs h =
    one_or (is_word "USE" word) _ _ (mapped_so (Each IsSpelledInstance) IsSpelledKind Use (each instance_in fs) (each_so IsSpelledInstance instance_in instance_so fs h) (λ is so. so))
    (one_or (is_word "ENABLE" word) _ _ (names_so Enable (λ x. tt) (each symbol_in fs))
    (one_or (is_word "DISABLE" word) _ _ (names_so Disable (λ x. tt) (each symbol_in fs))
    (one_or (is_word "EXPAND" word) _ _ h
    (one_or (is_word "INDUCT" word) _ _ (mapped_so IsSpelled IsSpelledKind Induct (single fs) (single_so fs h) (λ f so. so))
    (one_or (is_word "DO-NOT-INDUCT" word) _ _ (switched_so DoNotInduct fs tt)
    (one_or (is_word "DO-NOT-GENERALIZE" word) _ _ (switched_so DoNotGeneralize fs tt)
    (one_or (is_word "HANDS-OFF" word) _ _ (names_so HandsOff (λ x. tt) (each symbol_in fs))
    (one_or (is_word "NO-BUILT-IN-ARITH" word) _ _ (switched_so NoArithmetic fs tt)
    (one_or (is_word "TIME" word) _ _ (names_so (λ x. Time) (λ x. tt) (single fs)) tt)))))))))

-- ---- hints

hint_of_so : (fs : Forms) → AreSpelled fs → IfSome (hint_of fs) IsSpelledHint
hint_of_so end h = tt
hint_of_so (dotted f) h = tt
hint_of_so (next f fs) h =
    mapped_so Symbolic IsSpelledHint (λ w. record { word = w; kind = option_and_then (kind_of w) (proper fs) }) (symbol_in f) (symbol_spelled f h.0)
    (λ w is. then_so (Each IsSpelled) IsSpelledKind (kind_of w) (proper fs) (proper_spelled fs h.1) (kind_so w))

hint_so : (f : Form) → IsSpelled f → IfSome (hint_in f) IsSpelledHint
hint_so (symbol name) h = tt
hint_so (numeral negative n) h = tt
hint_so (text bytes) h = tt
hint_so (quoted f) h = tt
hint_so (listed fs) h = hint_of_so fs h

pub hints_spelled : (f : Form) → IsSpelled f → IfSome (hints_in f) (Each IsSpelledHint)
hints_spelled f h = each_in_so IsSpelledHint hint_in hint_so f h
