-- Calls and nests of CAR and CDR, as forms.
use Rattle.std.proofs.Common.{◌≡◌, ℕ, suc, ◌+◌, ◌≤◌, Bool, true, false, List, [], ◌∷◌, ◌++◌, length, inl, inr, refl, ap, sym, ◌∙◌, subst, arith}
use Rattle.std.specs.Prelude.{◌⊎◌, Option, None, Some, codes, if◌then◌else◌}
use Rattle.std.specs.List.{list_all}
use Rattle.std.proofs.lemmas.Grind.{common_steps}
use Rattle.nq_logic.specs.Terms.{Name, Term, Function, Applied, Each, applied, call}
use Rattle.nq_logic.specs.Words.{numeral}
use Rattle.nq_form.specs.Form.{Form, Forms, symbol, numeral as number, text, quoted, listed, end, dotted, next, push}
use Rattle.nq_form.specs.Spelling.{IsName, IsPlain, AllPlain, is_capital}
use Rattle.nq_language.specs.Abbreviations.{Word, Listing, Conditional, Choice, Binding, Quotation, Nesting, Path, Outside, Plain, is_word, is_letter, letters_of, at_least_two, path_or, other_word, word_of, word_by, word_in}
use Rattle.nq_language.specs.Objects.{nil_term, atom_term, value}
use Rattle.nq_language.specs.Translation.{translated, all_translated, list_term, conditional_term, choice_term, binding_term, quoted_term, nested_term, path_term, path_call, letter_term}
use Rattle.nq_language.specs.Refusals.{Met, first, bad, is_dotted, count, own_met, parts_met, counted, known, nested_counted, met, all_met}
use Rattle.nq_language.specs.Printing.{IsUsable, shown, constant_form, path_name, wrapped}
use Rattle.nq_language.proofs.PrintedObjects.{IsObject, same_name}

module _ (arity : Name → Option ℕ) where
  -- the form stands for the term, and nothing is refused in it
  pub record Good (f : Form) (t : Term) : Type 0 where
    pub translates : translated arity f ≡ t
    pub accepted : met arity f ≡ None
    pub plain : IsPlain f

  name_shown : (c : Bool) (t : Term) (x : Name) → is_word "NIL" x ≡ c → IsObject t (symbol x) → Good (if c then symbol x else quoted (symbol x)) t
  unfolding value translated met
  name_shown true t x e h =
      let at : x ≡ codes "NIL" = same_name x (codes "NIL") e in
      record { translates = rw at (subst (λ (z : Name). atom_term z ≡ t) at h.valued); accepted = refl; plain = h.plain }
  name_shown false t x e h = record { translates = h.valued; accepted = h.met; plain = h.plain }

  pub shown_good : (t : Term) (f : Form) → IsObject t f → Good (shown f) t
  unfolding value translated met
  shown_good t (symbol x) h = name_shown (is_word "NIL" x) t x refl h
  shown_good t (number negative n) h = record { translates = h.valued; accepted = refl; plain = h.plain }
  shown_good t (text bytes) h = absurd h.plain
  shown_good t (quoted f) h = record { translates = h.valued; accepted = h.met; plain = h.plain }
  shown_good t (listed fs) h = record { translates = h.valued; accepted = h.met; plain = h.plain }

  both_none : (r s : Met) → r ≡ None → s ≡ None → first r s ≡ None
  both_none r s h k = rw (h, k) refl

  counted_none : (f : Name) (n : ℕ) → counted f n n ≡ None
  counted_none f n = grind (arith, common_steps)

  known_none : (f : Name) (o : Option ℕ) (n : ℕ) → o ≡ Some n → known f o n ≡ None
  known_none f o n h = rw h (counted_none f n)

  nested_none : (f : Name) (n : ℕ) → n ≡ 2 → nested_counted f n ≡ None
  nested_none f n k = rw k refl

  -- the meaning of a name that is no nested function, and of one that is
  word_same : (f : Name) (w : Word) (n : Option ℕ) → word_of f ≡ w → word_by w n ≡ w → arity f ≡ n → word_in arity f ≡ w
  unfolding word_in
  word_same f w n h k e = ap (λ (z : Word). word_by z (arity f)) h ∙ ap (λ (o : Option ℕ). word_by w o) e ∙ k

  word_nested : (f : Name) (n : ℕ) → word_of f ≡ Nesting → arity f ≡ Some n → n ≡ 2 → word_in arity f ≡ Nesting
  word_nested f n h e k = word_same f Nesting (Some n) h (rw k refl) e

  nested_pair : (f : Name) (fs : Forms) → is_dotted fs ≡ false → count fs ≡ 2 → nested_term f (all_translated arity fs) ≡ call f (all_translated arity fs)
  unfolding translated
  nested_pair f end d h = absurd (cc)
  nested_pair f (dotted g) d h = absurd (cc)
  nested_pair f (next a end) d h = absurd (cc)
  nested_pair f (next a (dotted b)) d h = absurd (cc)
  nested_pair f (next a (next b end)) d h = refl
  nested_pair f (next a (next b (dotted g))) d h = absurd (cc)
  nested_pair f (next a (next b (next g fs))) d h = absurd (cc)

  -- the term and the refusals of a call, by its word
  abbrev term_by : Word → Name → Forms → Term
  unfolding translated
  term_by w f fs = elim w [
    | Listing ↦ list_term (all_translated arity fs)
    | Conditional ↦ conditional_term arity fs
    | Choice ↦ choice_term arity fs
    | Binding ↦ binding_term arity fs
    | Quotation ↦ quoted_term fs
    | Nesting ↦ nested_term f (all_translated arity fs)
    | Path letters ↦ path_call letters (all_translated arity fs)
    | Outside ↦ nil_term
    | Plain ↦ call f (all_translated arity fs)
  ]

  term_is : (f : Name) (fs : Forms) (w : Word) → word_in arity f ≡ w → translated arity (listed (next (symbol f) fs)) ≡ term_by w f fs
  unfolding translated term_by
  term_is f fs w h = ap (λ (z : Word). term_by z f fs) h

  whole_by : Bool → Word → Name → Forms → Met
  whole_by d w f fs = if d then bad "FORM" else first (own_met w (arity f) f fs) (parts_met arity w fs)

  met_is : (f : Name) (fs : Forms) (w : Word) → is_dotted fs ≡ false → word_in arity f ≡ w → met arity (listed (next (symbol f) fs)) ≡ first (own_met w (arity f) f fs) (parts_met arity w fs)
  unfolding met parts_met whole_by
  met_is f fs w d h = ap (λ (z : Word). whole_by (is_dotted fs) z f fs) h ∙ ap (λ (z : Bool). whole_by z w f fs) d

  -- a call of a usable function
  pub call_good : (f : Name) (fs : Forms) → is_dotted fs ≡ false → IsUsable arity f (count fs) → all_met arity fs ≡ None → AllPlain fs → Good (listed (next (symbol f) fs)) (call f (all_translated arity fs))
  unfolding term_by met parts_met
  call_good f fs d u m p = elim (u.word) [
    | inl k ↦ record {
      translates = term_is f fs Plain (word_same f Plain (arity f) k refl refl);
      accepted = met_is f fs Plain d (word_same f Plain (arity f) k refl refl) ∙ both_none _ _ (known_none f (arity f) (count fs) u.known) m;
      plain = (u.name, p);
    }
    | inr k ↦ record {
      translates = term_is f fs Nesting (word_nested f (count fs) k.0 u.known k.1) ∙ nested_pair f fs d k.1;
      accepted = met_is f fs Nesting d (word_nested f (count fs) k.0 u.known k.1) ∙ both_none _ _ (nested_none f (count fs) k.1) m;
      plain = (u.name, p);
    }
  ]

  -- CAR or CDR
  abbrev pub IsLetter : ℕ → Type 0
  IsLetter b = ((b ≡ 65) × IsUsable arity (codes "CAR") 1) ⊎ ((b ≡ 68) × IsUsable arity (codes "CDR") 1)

  letter_is : (b : ℕ) → IsLetter b → is_letter b ≡ true
  letter_is b (inl k) = rw (k.0) refl
  letter_is b (inr k) = rw (k.0) refl

  letter_capital : (b : ℕ) → IsLetter b → is_capital b ≡ true
  letter_capital b (inl k) = rw (k.0) refl
  letter_capital b (inr k) = rw (k.0) refl

  letters_capital : (bs : List ℕ) → Each IsLetter bs → list_all is_capital (bs ++ 82 ∷ []) ≡ true
  letters_capital [] h = refl
  letters_capital (b ∷ bs) h = rw (letter_capital b h.0, letters_capital bs h.1) refl

  letters_found : (bs : List ℕ) → Each IsLetter bs → letters_of (bs ++ 82 ∷ []) ≡ Some bs
  letters_found [] h = refl
  letters_found (b ∷ []) h = rw (letter_is b h.0) refl
  letters_found (b ∷ c ∷ bs) h = rw (letter_is b h.0, letters_found (c ∷ bs) h.1) refl

  path_found : (b c : ℕ) (bs : List ℕ) → Each IsLetter (b ∷ c ∷ bs) → word_of (path_name (b ∷ c ∷ bs)) ≡ Path (b ∷ c ∷ bs)
  unfolding word_of
  path_found b c bs h = ap (λ o. path_or (other_word (path_name (b ∷ c ∷ bs))) (at_least_two o)) (letters_found (b ∷ c ∷ bs) h)

  path_short : (bs : List ℕ) → length bs ≤ 200 → length (path_name bs) ≤ 256
  path_short bs h = grind (arith, common_steps)

  path_is_name : (b : ℕ) (bs : List ℕ) → Each IsLetter (b ∷ bs) → length (b ∷ bs) ≤ 200 → IsName (path_name (b ∷ bs))
  path_is_name b bs h n = record { capitals = letters_capital (b ∷ bs) h; front = refl; short = path_short (b ∷ bs) n }

  single_good : (g : Name) (f : Form) (t : Term) → IsUsable arity g 1 → Good f t → Good (listed (next (symbol g) (next f end))) (Applied (Function g) t)
  unfolding translated met
  single_good g f t u h =
      let whole = call_good g (next f end) refl u (both_none _ _ h.accepted refl) (h.plain, tt) in
      subst (λ (z : Term). Good (listed (next (symbol g) (next f end))) (Applied (Function g) z)) h.translates whole

  named_good : (b : ℕ) (f : Form) (t : Term) → IsLetter b → Good f t → Good (wrapped (b ∷ []) f) (letter_term b t)
  named_good b f t (inl k) h = subst (λ (z : ℕ). Good (wrapped (z ∷ []) f) (letter_term z t)) (sym (k.0)) (single_good (codes "CAR") f t k.1 h)
  named_good b f t (inr k) h = subst (λ (z : ℕ). Good (wrapped (z ∷ []) f) (letter_term z t)) (sym (k.0)) (single_good (codes "CDR") f t k.1 h)

  -- a form inside a nest of CAR and CDR
  pub wrapped_good : (bs : List ℕ) (f : Form) (t : Term) → Each IsLetter bs → length bs ≤ 200 → Good f t → Good (wrapped bs f) (path_term bs t)
  unfolding translated met parts_met term_by
  wrapped_good [] f t h n g = g
  wrapped_good (b ∷ []) f t h n g = named_good b f t h.0 g
  wrapped_good (b ∷ c ∷ bs) f t h n g =
      let name = path_name (b ∷ c ∷ bs) in
      let found = word_same name (Path (b ∷ c ∷ bs)) (arity name) (path_found b c bs h) refl refl in
      record {
        translates = term_is name (next f end) (Path (b ∷ c ∷ bs)) found ∙ ap (λ (z : Term). path_term (b ∷ c ∷ bs) z) g.translates;
        accepted = met_is name (next f end) (Path (b ∷ c ∷ bs)) refl found ∙ both_none _ _ refl (both_none _ _ g.accepted refl);
        plain = (path_is_name b (c ∷ bs) h n, (g.plain, tt));
      }

  constant_by : (c d e : Bool) (f : Name) → is_word "TRUE" f ≡ c → is_word "FALSE" f ≡ d → is_word "ZERO" f ≡ e → IsUsable arity f 0
      → Good (if c then symbol (codes "T") else (if d then symbol (codes "F") else (if e then number false 0 else listed (next (symbol f) end)))) (Function f)
  unfolding translated met numeral
  constant_by true d e f h k l u = record { translates = ap Function (sym (same_name f (codes "TRUE") h)); accepted = refl; plain = record { capitals = refl; front = refl; short = omega arith } }
  constant_by false true e f h k l u = record { translates = ap Function (sym (same_name f (codes "FALSE") k)); accepted = refl; plain = record { capitals = refl; front = refl; short = omega arith } }
  constant_by false false true f h k l u = record { translates = ap Function (sym (same_name f (codes "ZERO") l)); accepted = refl; plain = omega arith }
  constant_by false false false f h k l u = call_good f end refl u refl tt

  pub constant_good : (f : Name) → IsUsable arity f 0 → Good (constant_form f) (Function f)
  constant_good f u = constant_by (is_word "TRUE" f) (is_word "FALSE" f) (is_word "ZERO" f) f refl refl refl u

  push_straight : (fs : Forms) (f : Form) → is_dotted fs ≡ false → is_dotted (push fs f) ≡ false
  push_straight end f d = refl
  push_straight (dotted g) f d = d
  push_straight (next g fs) f d = push_straight fs f d

  push_count : (fs : Forms) (f : Form) → is_dotted fs ≡ false → count (push fs f) ≡ suc (count fs)
  push_count end f d = refl
  push_count (dotted g) f d = absurd (cc)
  push_count (next g fs) f d = ap suc (push_count fs f d)

  push_translated : (fs : Forms) (f : Form) → is_dotted fs ≡ false → all_translated arity (push fs f) ≡ all_translated arity fs ++ translated arity f ∷ []
  unfolding translated
  push_translated end f d = refl
  push_translated (dotted g) f d = absurd (cc)
  push_translated (next g fs) f d = ap (λ (z : List Term). translated arity g ∷ z) (push_translated fs f d)

  first_none : (r s : Met) → first r s ≡ None → (r ≡ None) × (s ≡ None)
  first_none None s h = (refl, h)
  first_none (Some r) s h = absurd (cc)

  push_met : (fs : Forms) (f : Form) → all_met arity fs ≡ None → met arity f ≡ None → all_met arity (push fs f) ≡ None
  unfolding met
  push_met end f h k = both_none _ _ k refl
  push_met (dotted g) f h k = refl
  push_met (next g fs) f h k = let p = first_none (met arity g) (all_met arity fs) h in both_none _ _ p.0 (push_met fs f p.1 k)

  push_plain : (fs : Forms) (f : Form) → AllPlain fs → IsPlain f → AllPlain (push fs f)
  push_plain end f h k = (k, tt)
  push_plain (dotted g) f h k = h
  push_plain (next g fs) f h k = (h.0, push_plain fs f h.1 k)

  applied_last : (t : Term) (us : List Term) (u : Term) → applied t (us ++ u ∷ []) ≡ Applied (applied t us) u
  applied_last t [] u = refl
  applied_last t (v ∷ us) u = applied_last (Applied t v) us u

  -- the forms are a function and the arguments that it has been given, of which n are still missing
  pub record GoodCall (fs : Forms) (t : Term) (n : ℕ) : Type 0 where
    pub function : Name
    pub arguments : Forms
    pub are : fs ≡ next (symbol function) arguments
    pub straight : is_dotted arguments ≡ false
    pub term : call function (all_translated arity arguments) ≡ t
    pub accepted : all_met arity arguments ≡ None
    pub plain : AllPlain arguments
    pub usable : IsUsable arity function (n + count arguments)

  pub call_start : (f : Name) (n : ℕ) → IsUsable arity f n → GoodCall (next (symbol f) end) (Function f) n
  unfolding translated met
  call_start f n u = record { function = f; arguments = end; are = refl; straight = refl; term = refl; accepted = refl; plain = tt; usable = subst (λ (z : ℕ). IsUsable arity f z) (omega arith) u }

  pub call_more : (fs : Forms) (f : Form) (t u : Term) (n : ℕ) → GoodCall fs t (suc n) → Good f u → GoodCall (push fs f) (Applied t u) n
  call_more fs f t u n g h =
      let now : List Term = all_translated arity g.arguments in
      let both : applied (Function g.function) (now ++ translated arity f ∷ []) ≡ Applied (call g.function now) (translated arity f) = applied_last (Function g.function) now (translated arity f) in
      let counts : suc n + count g.arguments ≡ n + count (push g.arguments f) = omega (arith, push_count g.arguments f g.straight) in
      record {
        function = g.function;
        arguments = push g.arguments f;
        are = ap (λ (z : Forms). push z f) g.are;
        straight = push_straight g.arguments f g.straight;
        term = ap (λ (z : List Term). call g.function z) (push_translated g.arguments f g.straight) ∙ both ∙ ap (λ (z : Term). Applied z (translated arity f)) g.term ∙ ap (λ (z : Term). Applied t z) h.translates;
        accepted = push_met g.arguments f g.accepted h.accepted;
        plain = push_plain g.arguments f g.plain h.plain;
        usable = subst (λ (z : ℕ). IsUsable arity g.function z) counts g.usable;
      }

  pub call_whole : (fs : Forms) (t : Term) → GoodCall fs t 0 → Good (listed fs) t
  call_whole fs t g =
      let usable : IsUsable arity g.function (count g.arguments) = subst (λ (z : ℕ). IsUsable arity g.function z) (omega arith) g.usable in
      let whole = call_good g.function g.arguments g.straight usable g.accepted g.plain in
      subst (λ (z : Forms). Good (listed z) t) (sym g.are) (subst (λ (z : Term). Good (listed (next (symbol g.function) g.arguments)) z) g.term whole)
