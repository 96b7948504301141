-- Forms with their terms or refusals, computed.
use Prim.Native.String.{String as Text}
use Rattle.std.proofs.Common.{◌≡◌, ℕ, true, false, List, [], ◌∷◌, refl, arith}
use Rattle.std.specs.Prelude.{Option, None, Some, Ok, codes, bytes_eq, if◌then◌else◌}
use Rattle.std.proofs.lemmas.Fmt.{decimal_digit}
use Rattle.nq_logic.specs.Terms.{Term, Name}
use Rattle.nq_logic.specs.Words.{variable, call1, call2, if_term, equal_term, numeral, literal_atom}
use Rattle.nq_logic.specs.Ground.{symbols_of}
use Rattle.nq_form.specs.Form.{Form, Forms, symbol, numeral as number, quoted, listed, end, dotted, next}
use Rattle.nq_language.specs.Arities.{arity_in}
use Rattle.nq_language.specs.Abbreviations.{word_of, word_in, Path, Plain}
use Rattle.nq_language.specs.Objects.{value, nil_term, cons_term}
use Rattle.nq_language.specs.Translation.{translated}
use Rattle.nq_logic.specs.Numerals.{number_of}
use Rattle.nq_logic.specs.Sizes.{tree_size, tree_depth}
use Rattle.nq_language.specs.Refusals.{UnknownFunction, WrongArity, OutOfScope, BadAbbreviation, BadVariable, Refusal, words_of, met, translation}

abbrev s : Text → Form
s x = symbol (codes x)

abbrev n : ℕ → Form
n k = number false k

abbrev forms : List Form → Forms
forms [] = end
forms (f ∷ fs) = next f (forms fs)

abbrev l : List Form → Form
l fs = listed (forms fs)

abbrev c : Text → List Form → Form
c f fs = l (s f ∷ fs)

abbrev arity : Name → Option ℕ
arity f = arity_in (symbols_of []) f

abbrev refused : Form → Refusal → Type 0
refused f r = met arity f ≡ Some r

arity_refused : refused (c "CAR" (s "X" ∷ s "X" ∷ [])) (WrongArity (codes "CAR") 2 1)
unfolding symbols_of met word_of word_in
arity_refused = refl

unknown_refused : refused (c "FOO" (s "X" ∷ [])) (UnknownFunction (codes "FOO"))
unfolding symbols_of met word_of word_in
unknown_refused = refl

outside_refused : refused (c "EQUAL" (c "EVAL$" (s "T" ∷ s "X" ∷ s "A" ∷ []) ∷ s "X" ∷ [])) (OutOfScope (codes "EVAL$"))
unfolding symbols_of met word_of word_in
outside_refused = refl

third_letter : word_of (codes "CADR") ≡ Path (65 ∷ 68 ∷ [])
unfolding word_of
third_letter = refl

not_a_path : word_of (codes "CAR") ≡ Plain
unfolding word_of
not_a_path = refl

abbrev swap_body : Form
swap_body = c "COND" (
    l (c "NLISTP" (s "X" ∷ []) ∷ s "X" ∷ []) ∷
    l (c "NLISTP" (c "CDR" (s "X" ∷ []) ∷ []) ∷ s "X" ∷ []) ∷
    l (s "T" ∷ c "LET" (l (l (s "A" ∷ c "CAR" (s "X" ∷ []) ∷ []) ∷ l (s "B" ∷ c "CADR" (s "X" ∷ []) ∷ []) ∷ []) ∷ c "LIST" (s "B" ∷ s "A" ∷ []) ∷ []) ∷ []) ∷ [])

swap_accepted : met arity swap_body ≡ None
unfolding symbols_of met word_of word_in
swap_accepted = refl

abbrev x : Term
x = variable "X"

swap_term : translated arity swap_body ≡ if_term (call1 "NLISTP" x) x (if_term (call1 "NLISTP" (call1 "CDR" x)) x
    (cons_term (call1 "CAR" (call1 "CDR" x)) (cons_term (call1 "CAR" x) nil_term)))
unfolding translated word_of word_in symbols_of numeral
swap_term = refl

-- LET replaces its variables at once
exchange : translated arity (c "LET" (l (l (s "X" ∷ s "Y" ∷ []) ∷ l (s "Y" ∷ s "X" ∷ []) ∷ []) ∷ c "CONS" (s "X" ∷ s "Y" ∷ []) ∷ [])) ≡ cons_term (variable "Y") (variable "X")
unfolding translated word_of word_in symbols_of
exchange = refl

large_number : translated arity (c "NUMBERP" (n 340282366920938463463374607431768211455 ∷ [])) ≡ call1 "NUMBERP" (numeral 340282366920938463463374607431768211455)
unfolding translated word_of word_in symbols_of
large_number = refl

negative_number : translated arity (c "EQUAL" (number true 3 ∷ c "MINUS" (n 3 ∷ []) ∷ [])) ≡ equal_term (call1 "MINUS" (numeral 3)) (call1 "MINUS" (numeral 3))
unfolding translated word_of word_in symbols_of
negative_number = refl

dotted_value : translated arity (quoted (listed (next (n 1) (next (s "A") (dotted (quoted (s "B"))))))) ≡
    cons_term (numeral 1) (cons_term (literal_atom "A") (cons_term (literal_atom "QUOTE") (cons_term (literal_atom "B") nil_term)))
unfolding translated value
dotted_value = refl

case_term : translated arity (c "CASE" (s "X" ∷ l (s "A" ∷ n 1 ∷ []) ∷ l (s "OTHERWISE" ∷ n 2 ∷ []) ∷ [])) ≡ if_term (equal_term x (literal_atom "A")) (numeral 1) (numeral 2)
unfolding translated word_of word_in symbols_of value
case_term = refl

nested_sum : translated arity (c "PLUS" (s "X" ∷ s "X" ∷ s "X" ∷ [])) ≡ call2 "PLUS" x (call2 "PLUS" x x)
unfolding translated word_of word_in symbols_of
nested_sum = refl

sum_refused : refused (c "PLUS" (s "X" ∷ [])) (WrongArity (codes "PLUS") 1 2)
unfolding symbols_of met word_of word_in
sum_refused = refl

-- a function of one argument that is named so is called with one
abbrev lone_plus : Name → Option ℕ
lone_plus f = if bytes_eq f (codes "PLUS") then Some 1 else arity f

lone_sum : translated lone_plus (c "PLUS" (s "X" ∷ [])) ≡ call1 "PLUS" x
unfolding translated word_of word_in
lone_sum = refl

lone_sum_refused : met lone_plus (c "PLUS" (s "X" ∷ s "Y" ∷ [])) ≡ Some (WrongArity (codes "PLUS") 2 1)
unfolding met word_of word_in
lone_sum_refused = refl

let_refused : refused (c "LET" (l (l (s "T" ∷ s "Y" ∷ []) ∷ []) ∷ c "FOO" [] ∷ [])) (BadVariable (codes "T"))
unfolding symbols_of met word_of word_in
let_refused = refl

let_twice_refused : refused (c "LET" (l (l (s "T" ∷ s "Y" ∷ []) ∷ l (s "T" ∷ s "Y" ∷ []) ∷ []) ∷ c "FOO" [] ∷ [])) (BadAbbreviation (codes "LET"))
unfolding symbols_of met word_of word_in
let_twice_refused = refl

form_refused : refused (l (c "A" [] ∷ [])) (BadAbbreviation (codes "FORM"))
unfolding met
form_refused = refl

escape_refused : refused (c "CONS" (s "X" ∷ quoted (l (n 1 ∷ s "*1*TRUE" ∷ [])) ∷ [])) (OutOfScope (codes "*1*TRUE"))
unfolding symbols_of met word_of word_in
escape_refused = refl

-- the form before its parts, and the parts from left to right
outer_first : refused (c "FOO" (c "BAR" [] ∷ [])) (UnknownFunction (codes "FOO"))
unfolding symbols_of met word_of word_in
outer_first = refl

arity_words : words_of (WrongArity (codes "CAR") 2 1) ≡ codes "Arity" ∷ codes "CAR" ∷ codes "2" ∷ codes "1" ∷ []
arity_words = rw (decimal_digit 2 (omega arith), decimal_digit 1 (omega arith)) refl

small_term : translation arity (c "NOT" (s "X" ∷ [])) ≡ Ok (call1 "NOT" x)
unfolding symbols_of translation met word_of word_in translated tree_size tree_depth number_of
small_term = refl
