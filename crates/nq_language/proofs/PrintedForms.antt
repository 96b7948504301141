-- The text of a term is read as that term.
use Rattle.std.proofs.Common.{◌≡◌, ℕ, suc, ◌≤◌, Bool, true, false, List, [], ◌∷◌, ◌++◌, length, inl, inr, refl, ap, sym, ◌∙◌, subst, arith, length-append}
use Rattle.std.specs.Prelude.{Option, None, Some, codes, if◌then◌else◌}
use Rattle.std.proofs.lemmas.Grind.{common_steps}
use Rattle.nq_logic.specs.Terms.{Name, Term, Variable, Function, Applied, Each}
use Rattle.nq_form.specs.Form.{Form, symbol, listed, end, next, push}
use Rattle.nq_form.specs.Grammar.{Items}
use Rattle.nq_form.specs.Spelling.{IsName, spelled}
use Rattle.nq_form.proofs.Reading.{spelling_is_read}
use Rattle.nq_language.specs.Abbreviations.{is_word}
use Rattle.nq_language.specs.Translation.{translated, path_term, letter_term, symbol_term}
use Rattle.nq_language.specs.Limits.{is_function}
use Rattle.nq_language.specs.Refusals.{Met, is_constant, met, sized, unless_met, translation}
use Rattle.nq_language.specs.Quotations.{object_of}
use Rattle.nq_language.specs.Printing.{IsPrintable, shown, letter_of, is_full, wrapped, form_under, call_forms, printed_form, PrintedIsRead}
use Rattle.nq_language.proofs.PrintedObjects.{object_is, same_function, chosen, only_chosen}
use Rattle.nq_language.proofs.PrintedCalls.{Good, GoodCall, IsLetter, shown_good, wrapped_good, constant_good, call_start, call_more, call_whole}

-- a choice by an option, or by a truth value
by_option : {X : Type 0} (P : Form → Type 0) (o : Option X) (g : X → Form) (h : Form) → ((x : X) → o ≡ Some x → P (g x)) → (o ≡ None → P h) → P (elim o [ Some x ↦ g x | None ↦ h ])
by_option P (Some x) g h p q = p x refl
by_option P None g h p q = q refl

by_truth : (P : Form → Type 0) (b : Bool) (g h : Form) → (b ≡ true → P g) → (b ≡ false → P h) → P (elim b [ true ↦ g | false ↦ h ])
by_truth P true g h p q = p refl
by_truth P false g h p q = q refl

not_full : (bs : List ℕ) (b : ℕ) → is_full bs ≡ false → length (bs ++ b ∷ []) ≤ 200
not_full bs b h = grind (arith, common_steps, length-append)

no_constant : (c d e : Bool) (x : Name) → is_word "T" x ≡ c → is_word "F" x ≡ d → is_word "NIL" x ≡ e → is_constant x ≡ false → symbol_term x ≡ Variable x
no_constant c d e x h k l n = grind (arith, common_steps)

path_last : (bs : List ℕ) (b : ℕ) (t : Term) → path_term (bs ++ b ∷ []) t ≡ path_term bs (letter_term b t)
path_last [] b t = refl
path_last (c ∷ bs) b t = ap (λ z. letter_term c z) (path_last bs b t)

module _ (arity : Name → Option ℕ) where
  each_last : (bs : List ℕ) (b : ℕ) → Each (IsLetter arity) bs → IsLetter arity b → Each (IsLetter arity) (bs ++ b ∷ [])
  each_last [] b h k = (k, tt)
  each_last (c ∷ bs) b h k = (h.0, each_last bs b h.1 k)

  at_car : (t : Term) (b : ℕ) (u : Term) → t ≡ Function (codes "CAR") → b ≡ 65 → IsPrintable arity t 1 → IsLetter arity b × (letter_term b u ≡ Applied t u)
  at_car t b u f is p = (inl (is, subst (λ (z : Term). IsPrintable arity z 1) f p), rw (f, is) refl)

  at_cdr : (t : Term) (b : ℕ) (u : Term) → t ≡ Function (codes "CDR") → b ≡ 68 → IsPrintable arity t 1 → IsLetter arity b × (letter_term b u ≡ Applied t u)
  at_cdr t b u f is p = (inr (is, subst (λ (z : Term). IsPrintable arity z 1) f p), rw (f, is) refl)

  -- the letter of a function that is still to be given one argument
  letter_good : (t : Term) (b : ℕ) (u : Term) → letter_of t ≡ Some b → IsPrintable arity t 1 → IsLetter arity b × (letter_term b u ≡ Applied t u)
  letter_good t b u h p = elim (chosen (is_function "CAR" t) (Some 65) (if is_function "CDR" t then Some 68 else None) b h) [
    | inl k ↦ at_car t b u (same_function "CAR" t k.0) (cc (k.1)) p
    | inr k ↦ let c = only_chosen (is_function "CDR" t) (Some 68) b k.1 in at_cdr t b u (same_function "CDR" t c.0) (cc (c.1)) p
  ]

  variable_good : (x : Name) → IsName x → is_constant x ≡ false → Good arity (symbol x) (Variable x)
  unfolding translated met
  variable_good x n c = record { translates = no_constant (is_word "T" x) (is_word "F" x) (is_word "NIL" x) x refl refl refl c; accepted = refl; plain = n }

  mutual
    unfolding form_under

    form_good : (t : Term) (bs : List ℕ) → Each (IsLetter arity) bs → length bs ≤ 200 → IsPrintable arity t 0 → Good arity (form_under bs t) (path_term bs t)
    form_good (Variable x) bs h n p = wrapped_good arity bs (symbol x) (Variable x) h n (variable_good x p.0 p.1)
    form_good (Function f) bs h n p = wrapped_good arity bs _ (Function f) h n (constant_good arity f p)
    form_good (Applied t u) bs h n p =
        by_option (λ (z : Form). Good arity z (path_term bs (Applied t u))) (letter_of t)
        (λ b. elim (is_full bs) [ true ↦ wrapped bs (form_under (b ∷ []) u) | false ↦ form_under (bs ++ b ∷ []) u ])
        (wrapped bs (elim (object_of (Applied t u)) [ Some f ↦ shown f | None ↦ listed (push (call_forms t) (form_under [] u)) ]))
        (λ b e.
        let l = letter_good t b u e p.0 in
        by_truth (λ (z : Form). Good arity z (path_term bs (Applied t u))) (is_full bs) (wrapped bs (form_under (b ∷ []) u)) (form_under (bs ++ b ∷ []) u)
        (λ full. subst (λ (z : Term). Good arity (wrapped bs (form_under (b ∷ []) u)) (path_term bs z)) l.1
        (wrapped_good arity bs (form_under (b ∷ []) u) (letter_term b u) h n (form_good u (b ∷ []) (l.0, tt) (omega arith) p.1)))
        (λ room. subst (λ (z : Term). Good arity (form_under (bs ++ b ∷ []) u) z) (path_last bs b u ∙ ap (λ (z : Term). path_term bs z) l.1)
        (form_good u (bs ++ b ∷ []) (each_last bs b h l.0) (not_full bs b room) p.1)))
        (λ e. wrapped_good arity bs _ (Applied t u) h n
        (by_option (λ (z : Form). Good arity z (Applied t u)) (object_of (Applied t u)) (λ f. shown f) (listed (push (call_forms t) (form_under [] u)))
        (λ f k. shown_good arity (Applied t u) f (object_is (Applied t u) f k))
        (λ k. call_whole arity _ (Applied t u) (call_more arity (call_forms t) (form_under [] u) t u 0 (call_made t 0 p.0) (form_good u [] tt (omega arith) p.1)))))

    call_made : (t : Term) (n : ℕ) → IsPrintable arity t (suc n) → GoodCall arity (call_forms t) t (suc n)
    call_made (Variable x) n p = absurd p
    call_made (Function f) n p = call_start arity f (suc n) p
    call_made (Applied t u) n p = call_more arity (call_forms t) (form_under [] u) t u (suc n) (call_made t (suc n) p.0) (form_good u [] tt (omega arith) p.1)

pub printed_is_read : PrintedIsRead
unfolding translation
printed_is_read arity t p small =
    let good : Good arity (printed_form t) t = form_good arity t [] tt (omega arith) p in (
      printed_form t,
      ap (λ (m : Met). unless_met m (sized (translated arity (printed_form t)))) good.accepted ∙ ap sized good.translates,
      λ levels h. subst (λ (z : List ℕ). Items levels z (next (printed_form t) end)) (ap (λ b. if b then codes "<large term>" else spelled (printed_form t)) (sym small)) (spelling_is_read levels (printed_form t) good.plain h),
    )
