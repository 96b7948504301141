-- The forms of terms, and their texts.
use Rattle.std.proofs.Common.{◌≡◌, ℕ, zero, suc, ◌<◌, ◌≤◌, Bool, true, false, List, [], ◌∷◌, ◌++◌, length, refl, sym, ap, ◌∙◌, subst, arith, append_assoc, append-nil, cond}
use Rattle.std.specs.Prelude.{decimal, is_some, Result, Ok, Err, OnOk, Option, None, Some, bytes_eq, codes, if◌then◌else◌}
use Rattle.std.proofs.lemmas.Grind.{common_steps}
use Rattle.nq_logic.specs.Terms.{Name, Term, Variable, Function, Applied, applied, call}
use Rattle.nq_logic.specs.Words.{numeral}
use Rattle.nq_logic.specs.Numerals.{numeral_limit}
use Rattle.nq_form.specs.Form.{Form, Forms, symbol, numeral as number, listed, end, dotted, next, push, append}
use Rattle.nq_form.specs.Spelling.{spelled, spelled_rest}
use Rattle.nq_language.specs.Quotations.{object_of}
use Rattle.nq_language.specs.Printing.{shown, constant_form, letter_of, is_full, path_name, wrapped, form_under, call_forms}
use Rattle.nq_print.specs.Pieces.{letter_with, letter_at, opening, closing, is_object, shown_text, arguments_text, call_text}
use Rattle.nq_print.proofs.ObjectLemmas.{object-numeral}

-- a letter is met where the function has one
none_before : (o : Option ℕ) (u : Term) → letter_with o u ≡ None → o ≡ None
none_before None u h = refl
none_before (Some b) u h = absurd (cc)

letter_in : Option (ℕ × Term) → ℕ → ℕ
letter_in None b = b
letter_in (Some p) b = p.0

term_in : Option (ℕ × Term) → Term → Term
term_in None u = u
term_in (Some p) u = p.1

some_before : (o : Option ℕ) (u v : Term) (b : ℕ) → letter_with o u ≡ Some (b, v) → (o ≡ Some b) × (u ≡ v)
unfolding letter_in term_in
some_before None u v b h = absurd (cc)
some_before (Some c) u v b h = (ap Some (ap (λ p. letter_in p b) h), ap (λ p. term_in p u) h)

plain_by : List ℕ → Option ℕ → Term → Form → Form
unfolding form_under
plain_by bs o u f = elim o [
  | Some b ↦ elim (is_full bs) [ true ↦ wrapped bs (form_under (b ∷ []) u) | false ↦ form_under (bs ++ b ∷ []) u ]
  | None ↦ wrapped bs f
]

pub under_plain : (bs : List ℕ) (t : Term) → letter_at t ≡ None → form_under bs t ≡ wrapped bs (form_under [] t)
unfolding form_under plain_by
under_plain bs (Variable x) h = refl
under_plain bs (Function f) h = refl
under_plain bs (Applied t u) h =
    let none = none_before (letter_of t) u h in
    let f : Form = elim (object_of (Applied t u)) [ Some o ↦ shown o | None ↦ listed (push (call_forms t) (form_under [] u)) ] in
    ap (λ o. plain_by bs o u f) none ∙ ap (wrapped bs) (sym (ap (λ o. plain_by [] o u f) none))

under_letter : (bs : List ℕ) (t u : Term) (b : ℕ) → letter_at t ≡ Some (b, u) → form_under bs t ≡ elim (is_full bs) [ true ↦ wrapped bs (form_under (b ∷ []) u) | false ↦ form_under (bs ++ b ∷ []) u ]
unfolding form_under plain_by
under_letter bs (Variable x) u b h = absurd (cc)
under_letter bs (Function f) u b h = absurd (cc)
under_letter bs (Applied t v) u b h =
    let some = some_before (letter_of t) v u b h in
    let f : Form = elim (object_of (Applied t v)) [ Some o ↦ shown o | None ↦ listed (push (call_forms t) (form_under [] v)) ] in
    ap (λ o. plain_by bs o v f) some.0 ∙ ap (λ (z : Term). elim (is_full bs) [ true ↦ wrapped bs (form_under (b ∷ []) z) | false ↦ form_under (bs ++ b ∷ []) z ]) some.1

pub under_full : (bs : List ℕ) (t u : Term) (b : ℕ) → letter_at t ≡ Some (b, u) → is_full bs ≡ true → form_under bs t ≡ wrapped bs (form_under (b ∷ []) u)
under_full bs t u b h k = under_letter bs t u b h ∙ ap (λ z. elim z [ true ↦ wrapped bs (form_under (b ∷ []) u) | false ↦ form_under (bs ++ b ∷ []) u ]) k

pub under_more : (bs : List ℕ) (t u : Term) (b : ℕ) → letter_at t ≡ Some (b, u) → is_full bs ≡ false → form_under bs t ≡ form_under (bs ++ b ∷ []) u
under_more bs t u b h k = under_letter bs t u b h ∙ ap (λ z. elim z [ true ↦ wrapped bs (form_under (b ∷ []) u) | false ↦ form_under (bs ++ b ∷ []) u ]) k

wrapped_seam : (x s : List ℕ) → 40 ∷ (x ++ ((32 ∷ s) ++ [])) ++ 41 ∷ [] ≡ 40 ∷ x ++ 32 ∷ [] ++ s ++ 41 ∷ []
wrapped_seam x s = grind (arith, common_steps)

pub text_wrapped : (bs : List ℕ) (f : Form) → spelled (wrapped bs f) ≡ opening bs ++ spelled f ++ closing bs
unfolding spelled
text_wrapped [] f = sym (append-nil (spelled f))
text_wrapped (b ∷ bs) f = wrapped_seam (path_name (b ∷ bs)) (spelled f)

pub text_variable : (x : Name) → spelled (form_under [] (Variable x)) ≡ x
unfolding spelled form_under
text_variable x = refl

pub text_constant : (f : Name) → spelled (form_under [] (Function f)) ≡ spelled (constant_form f)
unfolding form_under
text_constant f = refl

-- an applied term that isn't of CAR or CDR
whole_by : Option Form → Forms → Form
whole_by o fs = elim o [ Some f ↦ shown f | None ↦ listed fs ]

under_applied : (s u : Term) → letter_of s ≡ None → form_under [] (Applied s u) ≡ whole_by (object_of (Applied s u)) (call_forms (Applied s u))
unfolding form_under plain_by whole_by
under_applied s u h =
    ap (λ o. plain_by [] o u (elim (object_of (Applied s u)) [ Some f ↦ shown f | None ↦ listed (push (call_forms s) (form_under [] u)) ])) h

last_of : (t : Term) (us : List Term) → 0 < length us → (s : Term) × (u : Term) × (applied t us ≡ Applied s u)
last_of t [] h = absurd (omega arith)
last_of t (u ∷ []) h = (t, u, refl)
last_of t (u ∷ v ∷ us) h = last_of (Applied t u) (v ∷ us) (omega arith)

under_call : (t : Term) (f : Name) (ts : List Term) → t ≡ call f ts → 0 < length ts → letter_at t ≡ None → form_under [] t ≡ whole_by (object_of t) (call_forms t)
under_call t f ts is h k =
    let last = last_of (Function f) ts h in
    let e : t ≡ Applied last.0 last.1 = is ∙ last.2 in
    let none = none_before (letter_of last.0) last.1 (sym (ap letter_at e) ∙ k) in
    subst (λ (z : Term). form_under [] z ≡ whole_by (object_of z) (call_forms z)) (sym e) (under_applied last.0 last.1 none)

forms_of : List Term → Forms
forms_of [] = end
forms_of (t ∷ ts) = next (form_under [] t) (forms_of ts)

append-end : (fs : Forms) → append fs end ≡ fs
append-end end = refl
append-end (dotted f) = refl
append-end (next f fs) = ap (λ (z : Forms). next f z) (append-end fs)

append-push : (fs gs : Forms) (f : Form) → append (push fs f) gs ≡ append fs (next f gs)
append-push end gs f = refl
append-push (dotted g) gs f = refl
append-push (next g fs) gs f = ap (λ (z : Forms). next g z) (append-push fs gs f)

forms_applied : (t : Term) (us : List Term) → call_forms (applied t us) ≡ append (call_forms t) (forms_of us)
unfolding form_under forms_of
forms_applied t [] = sym (append-end (call_forms t))
forms_applied t (u ∷ us) = forms_applied (Applied t u) us ∙ append-push (call_forms t) (forms_of us) (form_under [] u)

text_forms : (ts : List Term) → spelled_rest (forms_of ts) ≡ arguments_text ts
unfolding spelled forms_of
text_forms [] = refl
text_forms (t ∷ ts) = ap (λ z. (32 ∷ spelled (form_under [] t)) ++ z) (text_forms ts)

text_listed : (f : Name) (ts : List Term) → spelled (listed (call_forms (call f ts))) ≡ call_text f ts
unfolding spelled form_under
text_listed f ts = ap (λ (z : Forms). spelled (listed z)) (forms_applied (Function f) ts) ∙ ap (λ z. 40 ∷ (f ++ z) ++ 41 ∷ []) (text_forms ts)

none_of : (o : Option Form) (b : Bool) → b ≡ false → b ≡ is_some o → o ≡ None
none_of None b h k = refl
none_of (Some f) b h k = absurd (cc)

pub text_call : (t : Term) (f : Name) (ts : List Term) → t ≡ call f ts → 0 < length ts → letter_at t ≡ None → is_object t ≡ false → spelled (form_under [] t) ≡ call_text f ts
unfolding whole_by
text_call t f ts is h k l =
    let none : object_of t ≡ None = none_of (object_of t) (is_object t) l refl in
    ap spelled (under_call t f ts is h k ∙ ap (λ o. whole_by o (call_forms t)) none) ∙ ap (λ (z : Term). spelled (listed (call_forms z))) is ∙ text_listed f ts

shown_of : (o : Option Form) (fs : Forms) (b : Bool) → b ≡ true → b ≡ is_some o → spelled (whole_by o fs) ≡ shown_text o
unfolding whole_by
shown_of None fs b h k = absurd (cc)
shown_of (Some f) fs b h k = refl

pub text_object : (t : Term) (f : Name) (ts : List Term) → t ≡ call f ts → 0 < length ts → letter_at t ≡ None → is_object t ≡ true → spelled (form_under [] t) ≡ shown_text (object_of t)
text_object t f ts is h k l = ap spelled (under_call t f ts is h k) ∙ shown_of (object_of t) (call_forms t) (is_object t) l refl

under_numeral : (n : ℕ) → n < numeral_limit → form_under [] (numeral n) ≡ number false n
unfolding form_under numeral whole_by
under_numeral zero h = refl
under_numeral (suc n) h = ap (λ o. whole_by o (next (symbol (codes "ADD1")) (next (form_under [] (numeral n)) end))) (object-numeral (suc n) h)

pub text_numeral : (n : ℕ) → n < numeral_limit → spelled (form_under [] (numeral n)) ≡ decimal n
unfolding spelled
text_numeral n h = ap spelled (under_numeral n h)

pub constant_true : (f : Name) → bytes_eq f (codes "TRUE") ≡ true → spelled (constant_form f) ≡ 84 ∷ []
unfolding spelled
constant_true f h = ap (λ c. spelled (cond c (symbol (codes "T")) (if bytes_eq f (codes "FALSE") then symbol (codes "F") else (if bytes_eq f (codes "ZERO") then number false 0 else listed (next (symbol f) end))))) h

constant_by : (c d e : Bool) (f : Name) → c ≡ false → d ≡ true
    → spelled (if c then symbol (codes "T") else (if d then symbol (codes "F") else (if e then number false 0 else listed (next (symbol f) end)))) ≡ 70 ∷ []
unfolding spelled
constant_by c d e f h k = rw (h, k) refl

pub constant_false : (f : Name) → bytes_eq f (codes "TRUE") ≡ false → bytes_eq f (codes "FALSE") ≡ true → spelled (constant_form f) ≡ 70 ∷ []
constant_false f h k = constant_by (bytes_eq f (codes "TRUE")) (bytes_eq f (codes "FALSE")) (bytes_eq f (codes "ZERO")) f h k

zero_by : (c d e : Bool) (f : Name) → c ≡ false → d ≡ false → e ≡ true
    → spelled (if c then symbol (codes "T") else (if d then symbol (codes "F") else (if e then number false 0 else listed (next (symbol f) end)))) ≡ decimal 0
unfolding spelled
zero_by c d e f h k l = rw (h, k, l) refl

pub constant_zero : (f : Name) → bytes_eq f (codes "TRUE") ≡ false → bytes_eq f (codes "FALSE") ≡ false → bytes_eq f (codes "ZERO") ≡ true → spelled (constant_form f) ≡ decimal 0
constant_zero f h k l = zero_by (bytes_eq f (codes "TRUE")) (bytes_eq f (codes "FALSE")) (bytes_eq f (codes "ZERO")) f h k l

other_by : (c d e : Bool) (f : Name) → c ≡ false → d ≡ false → e ≡ false
    → spelled (if c then symbol (codes "T") else (if d then symbol (codes "F") else (if e then number false 0 else listed (next (symbol f) end)))) ≡ 40 ∷ f ++ 41 ∷ []
unfolding spelled
other_by c d e f h k l = rw (h, k, l) (ap (λ z. 40 ∷ z ++ 41 ∷ []) (append-nil f))

pub constant_other : (f : Name) → bytes_eq f (codes "TRUE") ≡ false → bytes_eq f (codes "FALSE") ≡ false → bytes_eq f (codes "ZERO") ≡ false → spelled (constant_form f) ≡ 40 ∷ f ++ 41 ∷ []
constant_other f h k l = other_by (bytes_eq f (codes "TRUE")) (bytes_eq f (codes "FALSE")) (bytes_eq f (codes "ZERO")) f h k l

pub three_pieces : {A E : Type 0} (r : Result A E) (old one two three a b c w : List ℕ) → one ≡ old ++ a → two ≡ one ++ b → w ≡ a ++ b ++ c → OnOk r (three ≡ two ++ c) → OnOk r (three ≡ old ++ w)
three_pieces (Ok x) old one two three a b c w h i k l = rw (l, i, h, k) (simp append_assoc)
three_pieces (Err e) old one two three a b c w h i k l = tt

-- a form inside a nest, written
pub wrapped_pieces : {A E : Type 0} (r : Result A E) (old one two three before behind bs : List ℕ) (f whole : Form) → before ≡ bs → behind ≡ bs → one ≡ old ++ opening before → two ≡ one ++ spelled f → whole ≡ wrapped bs f
    → OnOk r (three ≡ two ++ closing behind) → OnOk r (three ≡ old ++ spelled whole)
wrapped_pieces r old one two three before behind bs f whole h k i j l m =
    three_pieces r old one two three (opening before) (spelled f) (closing behind) (spelled whole) i j
    (ap spelled l ∙ text_wrapped bs f ∙ ap (λ z. opening z ++ spelled f ++ closing bs) (sym h) ∙ ap (λ z. opening before ++ spelled f ++ closing z) (sym k)) m

pub full_enough : (bs : List ℕ) → 200 ≤ length bs → is_full bs ≡ true
full_enough bs h = grind (arith, common_steps)

pub not_full : (bs : List ℕ) → length bs < 200 → is_full bs ≡ false
not_full bs h = grind (arith, common_steps)

pub some_arguments : (n : ℕ) (ts : List Term) → n ≡ length ts → (n ≡ 0 → ⊥) → 0 < length ts
some_arguments n ts h k = omega (arith, k)

pub no_arguments : (n : ℕ) (ts : List Term) (t : Term) (f : Name) → n ≡ 0 → n ≡ length ts → t ≡ call f ts → t ≡ Function f
no_arguments n [] t f h k is = is
no_arguments n (u ∷ ts) t f h k is = absurd (omega arith)
