-- CASE: its selector, and its clauses.
use Rattle.std.proofs.Common.{◌≡◌, ℕ, ◌≤◌, Bool, true, false, List, [], ◌∷◌, length, get_or, drop, refl, ap, sym, ◌∙◌, subst, inl, arith}
use Rattle.std.specs.Prelude.{Option, None, Some, codes}
use Rattle.nq_logic.specs.Terms.{Name, Term, Function, Applied, Substitution}
use Rattle.nq_form.specs.Form.{Form, Forms, symbol, numeral, text, quoted, listed, end, dotted, next}
use Rattle.nq_language.specs.Objects.{value}
use Rattle.nq_language.specs.Refusals.{Refusal, Met, first, unless, bad, are_clauses, keyed_met, met}
use Rattle.nq_language.specs.Scopes.{translated_in, choice_term_in, keyed_term_in}
use Rattle.nq_sexp.specs.declared.Sexp.{Sexp}
use Rattle.nq_sexp.specs.Tree.{tree, trees}
use Rattle.nq_abbrev.specs.InScope.{chosen_met, keyed_refused, key_term, value_term_in, IsSameOrDeep}
use Rattle.nq_abbrev.proofs.ClauseLemmas.{first_unmet, are_pairs, branches, keyed_branches}
use Rattle.nq_abbrev.proofs.LikeLemmas.{congruent}

module _ (a b : Term) (same : IsSameOrDeep a b) where
  equal_like : (t : Term) → IsSameOrDeep (Applied (Applied (Function (codes "EQUAL")) a) t) (Applied (Applied (Function (codes "EQUAL")) b) t)
  equal_like t = congruent _ _ t t (congruent (Function (codes "EQUAL")) (Function (codes "EQUAL")) a b (inl refl) same) (inl refl)

  key_like : (f : Form) → IsSameOrDeep (key_term a f) (key_term b f)
  key_like (symbol x) = inl refl
  key_like (numeral negative n) = inl refl
  key_like (text bytes) = inl refl
  key_like (quoted f) = inl refl
  key_like (listed end) = inl refl
  key_like (listed (dotted f)) = inl refl
  key_like (listed (next f end)) = inl refl
  key_like (listed (next f (dotted g))) = inl refl
  key_like (listed (next f (next g end))) = equal_like (value f)
  key_like (listed (next f (next g (dotted i)))) = inl refl
  key_like (listed (next f (next g (next i fs)))) = inl refl

  branches_like : (v : Form → Term) (xs : List Sexp) → IsSameOrDeep (branches (key_term a) v xs) (branches (key_term b) v xs)
  branches_like v [] = inl refl
  branches_like v (x ∷ []) = inl refl
  branches_like v (x ∷ y ∷ xs) =
      let test = congruent (Function (codes "IF")) (Function (codes "IF")) (key_term a (tree x)) (key_term b (tree x)) (inl refl) (key_like (tree x)) in
      congruent _ _ (branches (key_term a) v (y ∷ xs)) (branches (key_term b) v (y ∷ xs)) (congruent _ _ (v (tree x)) (v (tree x)) test (inl refl)) (branches_like v (y ∷ xs))

-- the clauses of CASE for selectors that are the same or both too deep
pub keyed_like : (arity : Name → Option ℕ) (s : Substitution) (a b : Term) (xs : List Sexp) → IsSameOrDeep a b → are_pairs xs ≡ true → IsSameOrDeep (keyed_term_in arity s a (trees xs end)) (keyed_term_in arity s b (trees xs end))
keyed_like arity s a b xs same pairs =
    subst (λ (t : Term). IsSameOrDeep t (keyed_term_in arity s b (trees xs end))) (keyed_branches arity s a xs pairs)
    (subst (λ (t : Term). IsSameOrDeep (branches (key_term a) (value_term_in arity s) xs) t) (keyed_branches arity s b xs pairs) (branches_like a b same (value_term_in arity s) xs))

unless_unmet : (b : Bool) (r : Refusal) → unless b (Some r) ≡ None → b ≡ true
unless_unmet true r h = refl
unless_unmet false r h = absurd (cc)

both_none : (m n : Met) → m ≡ None → n ≡ None → first m n ≡ None
both_none m n h k = ap (λ (z : Met). first z n) h ∙ k

case_parts : (items : List Sexp) (x : Sexp) → 2 ≤ length items → x ≡ get_or items 1 x → trees (drop 1 items) end ≡ next (tree x) (trees (drop 2 items) end)
case_parts [] x two is = absurd (omega arith)
case_parts (y ∷ []) x two is = absurd (omega arith)
case_parts (y ∷ z ∷ items) x two is = ap (λ (u : Sexp). next (tree u) (trees items end)) (sym is)

case_is : (arity : Name → Option ℕ) (f : Form) (fs : Forms) → chosen_met arity (next f fs) ≡ first (unless (are_clauses (codes "OTHERWISE") fs) (bad "CASE")) (first (met arity f) (keyed_met arity fs))
unfolding met
case_is arity f fs = refl

case_term : (arity : Name → Option ℕ) (s : Substitution) (f : Form) (fs : Forms) → keyed_term_in arity s (translated_in arity s f) fs ≡ choice_term_in arity s (next f fs)
unfolding translated_in
case_term arity s f fs = refl

-- CASE that isn't refused: its selector, and its clauses
pub record CaseUnmet (arity : Name → Option ℕ) (items : List Sexp) (selector : Sexp) : Type 0 where
  pub selector_met : met arity (tree selector) ≡ None
  pub clauses : keyed_refused arity (trees (drop 2 items) end) ≡ None
  pub term : (s : Substitution) → keyed_term_in arity s (translated_in arity s (tree selector)) (trees (drop 2 items) end) ≡ choice_term_in arity s (trees (drop 1 items) end)

pub case_unmet : (arity : Name → Option ℕ) (items : List Sexp) (selector : Sexp) → 2 ≤ length items → selector ≡ get_or items 1 selector → chosen_met arity (trees (drop 1 items) end) ≡ None → CaseUnmet arity items selector
case_unmet arity items selector two is h =
    let fs = trees (drop 2 items) end in
    let parts = case_parts items selector two is in
    let shape = unless (are_clauses (codes "OTHERWISE") fs) (bad "CASE") in
    let whole = sym (ap (chosen_met arity) parts ∙ case_is arity (tree selector) fs) ∙ h in
    let own = first_unmet shape (first (met arity (tree selector)) (keyed_met arity fs)) whole in
    let inner = first_unmet (met arity (tree selector)) (keyed_met arity fs) own.1 in
    record {
      selector_met = inner.0;
      clauses = both_none shape (keyed_met arity fs) own.0 inner.1;
      term = λ s. case_term arity s (tree selector) fs ∙ ap (choice_term_in arity s) (sym parts);
    }
