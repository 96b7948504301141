-- Replacing variables and translating with their terms in hand.
use Rattle.std.proofs.Common.{◌≡◌, ℕ, zero, suc, Bool, true, false, List, [], ◌∷◌, ◌++◌, refl, ap, ◌∙◌, nat_eq}
use Rattle.std.specs.Prelude.{Option, bytes_eq, if◌then◌else◌, codes}
use Rattle.nq_logic.specs.Terms.{Name, Term, Variable, Function, Applied, applied, call, Substitution, value_at, substituted}
use Rattle.nq_logic.specs.Words.{call1, if_term, equal_term, numeral, numerals}
use Rattle.nq_form.specs.Form.{Form, Forms, symbol, numeral as number, text, quoted, listed, end, dotted, next}
use Rattle.nq_language.specs.Abbreviations.{Word, Listing, Conditional, Choice, Binding, Quotation, Nesting, Path, Outside, Plain, is_word, word_in}
use Rattle.nq_language.specs.Objects.{nil_term, number_term, value, values}
use Rattle.nq_language.specs.Translation.{list_term, nested_term, path_term, path_call, quoted_term, symbol_term, translated, all_translated, conditional_term, choice_term, keyed_term, binding_term, bound}
use Rattle.nq_language.specs.Scopes.{symbol_term_in, translated_in, all_translated_in, conditional_term_in, choice_term_in, keyed_term_in, binding_term_in, bound_in, ScopesAgree, EmptyScope}

module _ (s : Substitution) where
  numeral_same : (n : ℕ) → numeral n ≡ substituted s (numeral n)
  unfolding numeral
  numeral_same zero = refl
  numeral_same (suc n) = ap (λ (z : Term). call1 "ADD1" z) (numeral_same n)

  numerals_same : (ns : List ℕ) → numerals ns ≡ substituted s (numerals ns)
  numerals_same [] = refl
  numerals_same (n ∷ ns) = rw (← numeral_same n, ← numerals_same ns) refl

  number_same : (negative : Bool) (n : ℕ) → number_term negative n ≡ substituted s (number_term negative n)
  number_same false n = numeral_same n
  number_same true zero = numeral_same zero
  number_same true (suc n) = ap (λ (z : Term). call1 "MINUS" z) (numeral_same (suc n))

  nil_same : nil_term ≡ substituted s nil_term
  nil_same = ap (λ (z : Term). call1 "PACK" z) (numerals_same (codes "NIL"))

  quote_same : numerals (codes "QUOTE") ≡ substituted s (numerals (codes "QUOTE"))
  quote_same = numerals_same (codes "QUOTE")

  mutual
    unfolding value

    -- a value has no variables
    value_same : (f : Form) → value f ≡ substituted s (value f)
    value_same (symbol x) = ap (λ (z : Term). call1 "PACK" z) (numerals_same x)
    value_same (number negative n) = number_same negative n
    value_same (text bytes) = nil_same
    value_same (quoted f) = rw (← nil_same, ← value_same f, ← quote_same) refl
    value_same (listed fs) = values_same fs

    values_same : (fs : Forms) → values fs ≡ substituted s (values fs)
    values_same end = nil_same
    values_same (dotted f) = value_same f
    values_same (next f fs) = rw (← value_same f, ← values_same fs) refl

  quoted_same : (fs : Forms) → quoted_term fs ≡ substituted s (quoted_term fs)
  quoted_same end = nil_same
  quoted_same (dotted f) = nil_same
  quoted_same (next f fs) = value_same f

  -- the terms with the variables replaced
  all_substituted : List Term → List Term
  all_substituted [] = []
  all_substituted (t ∷ ts) = substituted s t ∷ all_substituted ts

  list_same : (ts : List Term) → list_term (all_substituted ts) ≡ substituted s (list_term ts)
  unfolding all_substituted
  list_same [] = nil_same
  list_same (t ∷ ts) = rw (← list_same ts) refl

  applied_same : (t : Term) (ts : List Term) → applied (substituted s t) (all_substituted ts) ≡ substituted s (applied t ts)
  unfolding all_substituted
  applied_same t [] = refl
  applied_same t (u ∷ ts) = applied_same (Applied t u) ts

  nested_same : (f : Name) (ts : List Term) → nested_term f (all_substituted ts) ≡ substituted s (nested_term f ts)
  unfolding all_substituted
  nested_same f [] = refl
  nested_same f (t ∷ []) = refl
  nested_same f (t ∷ u ∷ []) = refl
  nested_same f (t ∷ u ∷ v ∷ ts) = ap (λ (z : Term). call f (substituted s t ∷ z ∷ [])) (nested_same f (u ∷ v ∷ ts))

  letter_same : (c : Bool) (t u : Term) → t ≡ substituted s u → (if c then call1 "CAR" t else call1 "CDR" t) ≡ substituted s (if c then call1 "CAR" u else call1 "CDR" u)
  letter_same true t u h = ap (λ (z : Term). call1 "CAR" z) h
  letter_same false t u h = ap (λ (z : Term). call1 "CDR" z) h

  path_same : (bs : List ℕ) (t : Term) → path_term bs (substituted s t) ≡ substituted s (path_term bs t)
  path_same [] t = refl
  path_same (b ∷ bs) t = letter_same (nat_eq b 65) _ _ (path_same bs t)

  path_call_same : (bs : List ℕ) (ts : List Term) → path_call bs (all_substituted ts) ≡ substituted s (path_call bs ts)
  unfolding all_substituted
  path_call_same bs [] = nil_same
  path_call_same bs (t ∷ ts) = path_same bs t

  choice_of : (c : Bool) (t u v w : Term) → t ≡ substituted s v → u ≡ substituted s w → (if c then t else u) ≡ substituted s (if c then v else w)
  choice_of true t u v w h k = h
  choice_of false t u v w h k = k

  symbol_same : (x : Name) → symbol_term_in s x ≡ substituted s (symbol_term x)
  symbol_same x = choice_of (is_word "T" x) _ _ _ _ refl (choice_of (is_word "F" x) _ _ _ _ refl (choice_of (is_word "NIL" x) _ _ _ _ nil_same refl))

  -- the pairs with the variables replaced in their terms, before those of s
  after_pairs : Substitution → Substitution
  after_pairs [] = s
  after_pairs (p ∷ ps) = (p.0, substituted s p.1) ∷ after_pairs ps

  value_after : (ps : Substitution) (x : Name) → value_at (after_pairs ps) x ≡ substituted s (value_at ps x)
  unfolding after_pairs
  value_after [] x = refl
  value_after (p ∷ ps) x = choice_of (bytes_eq x p.0) _ _ _ _ refl (value_after ps x)

  -- replacing twice is replacing once
  substituted_twice : (ps : Substitution) (t : Term) → substituted (after_pairs ps) t ≡ substituted s (substituted ps t)
  substituted_twice ps (Variable x) = value_after ps x
  substituted_twice ps (Function f) = refl
  substituted_twice ps (Applied t u) = rw (← substituted_twice ps t, ← substituted_twice ps u) refl

module _ (arity : Name → Option ℕ) where
  by_word : (s : Substitution) (w : Word) (f : Name) (fs : Forms) → all_translated_in arity s fs ≡ all_substituted s (all_translated arity fs) → conditional_term_in arity s fs ≡ substituted s (conditional_term arity fs)
      → choice_term_in arity s fs ≡ substituted s (choice_term arity fs) → binding_term_in arity s fs ≡ substituted s (binding_term arity fs)
      → (elim w [
        | Listing ↦ list_term (all_translated_in arity s fs)
        | Conditional ↦ conditional_term_in arity s fs
        | Choice ↦ choice_term_in arity s fs
        | Binding ↦ binding_term_in arity s fs
        | Quotation ↦ quoted_term fs
        | Nesting ↦ nested_term f (all_translated_in arity s fs)
        | Path letters ↦ path_call letters (all_translated_in arity s fs)
        | Outside ↦ nil_term
        | Plain ↦ call f (all_translated_in arity s fs)
      ]) ≡ substituted s (elim w [
        | Listing ↦ list_term (all_translated arity fs)
        | Conditional ↦ conditional_term arity fs
        | Choice ↦ choice_term arity fs
        | Binding ↦ binding_term arity fs
        | Quotation ↦ quoted_term fs
        | Nesting ↦ nested_term f (all_translated arity fs)
        | Path letters ↦ path_call letters (all_translated arity fs)
        | Outside ↦ nil_term
        | Plain ↦ call f (all_translated arity fs)
      ])
  by_word s Listing f fs a b c d = ap list_term a ∙ list_same s (all_translated arity fs)
  by_word s Conditional f fs a b c d = b
  by_word s Choice f fs a b c d = c
  by_word s Binding f fs a b c d = d
  by_word s Quotation f fs a b c d = quoted_same s fs
  by_word s Nesting f fs a b c d = ap (λ (z : List Term). nested_term f z) a ∙ nested_same s f (all_translated arity fs)
  by_word s (Path letters) f fs a b c d = ap (λ (z : List Term). path_call letters z) a ∙ path_call_same s letters (all_translated arity fs)
  by_word s Outside f fs a b c d = nil_same s
  by_word s Plain f fs a b c d = ap (λ (z : List Term). call f z) a ∙ applied_same s (Function f) (all_translated arity fs)

  if_same : (s : Substitution) (p x y q v w : Term) → p ≡ substituted s q → x ≡ substituted s v → y ≡ substituted s w → if_term p x y ≡ substituted s (if_term q v w)
  if_same s p x y q v w h k l = rw (h, k, l) refl

  equal_same : (s : Substitution) (x : Term) (k : Form) → equal_term (substituted s x) (value k) ≡ substituted s (equal_term x (value k))
  equal_same s x k = ap (λ (z : Term). equal_term (substituted s x) z) (value_same s k)

  mutual
    unfolding translated translated_in all_substituted after_pairs

    form_same : (s : Substitution) (f : Form) → translated_in arity s f ≡ substituted s (translated arity f)
    form_same s (symbol x) = symbol_same s x
    form_same s (number negative n) = number_same s negative n
    form_same s (text bytes) = nil_same s
    form_same s (quoted f) = value_same s f
    form_same s (listed end) = nil_same s
    form_same s (listed (next (symbol f) fs)) = by_word s (word_in arity f) f fs (all_same s fs) (conditional_same s fs) (choice_same s fs) (binding_same s fs)
    form_same s (listed fs) = nil_same s

    all_same : (s : Substitution) (fs : Forms) → all_translated_in arity s fs ≡ all_substituted s (all_translated arity fs)
    all_same s end = refl
    all_same s (dotted f) = refl
    all_same s (next f fs) = rw (form_same s f, all_same s fs) refl

    conditional_same : (s : Substitution) (fs : Forms) → conditional_term_in arity s fs ≡ substituted s (conditional_term arity fs)
    conditional_same s (next (listed (next t (next v end))) end) = form_same s v
    conditional_same s (next (listed (next t (next v end))) fs) = if_same s (translated_in arity s t) (translated_in arity s v) (conditional_term_in arity s fs) (translated arity t) (translated arity v) (conditional_term arity fs) (form_same s t) (form_same s v) (conditional_same s fs)
    conditional_same s _ = nil_same s

    choice_same : (s : Substitution) (fs : Forms) → choice_term_in arity s fs ≡ substituted s (choice_term arity fs)
    choice_same s (next x fs) = ap (λ (z : Term). keyed_term_in arity s z fs) (form_same s x) ∙ keyed_same s (translated arity x) fs
    choice_same s _ = nil_same s

    keyed_same : (s : Substitution) (x : Term) (fs : Forms) → keyed_term_in arity s (substituted s x) fs ≡ substituted s (keyed_term arity x fs)
    keyed_same s x (next (listed (next k (next v end))) end) = form_same s v
    keyed_same s x (next (listed (next k (next v end))) fs) = if_same s (equal_term (substituted s x) (value k)) (translated_in arity s v) (keyed_term_in arity s (substituted s x) fs) (equal_term x (value k)) (translated arity v) (keyed_term arity x fs) (equal_same s x k) (form_same s v) (keyed_same s x fs)
    keyed_same s x _ = nil_same s

    binding_same : (s : Substitution) (fs : Forms) → binding_term_in arity s fs ≡ substituted s (binding_term arity fs)
    binding_same s (next (listed bindings) (next body end)) =
        form_same (bound_in arity s bindings ++ s) body ∙ ap (λ (z : Substitution). substituted z (translated arity body)) (bound_same s bindings) ∙ substituted_twice s (bound arity bindings) (translated arity body)
    binding_same s _ = nil_same s

    bound_same : (s : Substitution) (fs : Forms) → bound_in arity s fs ++ s ≡ after_pairs s (bound arity fs)
    bound_same s (next (listed (next (symbol x) (next t end))) fs) = rw (form_same s t, bound_same s fs) refl
    bound_same s _ = refl

pub scopes_agree : ScopesAgree
scopes_agree arity = form_same arity

-- replacing nothing changes nothing
nothing_replaced : (t : Term) → substituted [] t ≡ t
nothing_replaced (Variable x) = refl
nothing_replaced (Function f) = refl
nothing_replaced (Applied t u) = rw (nothing_replaced t, nothing_replaced u) refl

pub empty_scope : EmptyScope
empty_scope arity f = form_same arity [] f ∙ nothing_replaced (translated arity f)
