-- Translation with the terms of bound variables in hand, which makes no term that is replaced later.
use Rattle.std.specs.Prelude.{◌≡◌, ℕ, Option, if◌then◌else◌, List, [], ◌∷◌, ◌++◌}
use Rattle.nq_logic.specs.Terms.{Name, Term, call, Substitution, value_at, substituted}
use Rattle.nq_logic.specs.Words.{true_term, false_term, if_term, equal_term}
use Rattle.nq_form.specs.Form.{Form, Forms, symbol, numeral as numeral_form, text, quoted, listed, end, dotted, next}
use Rattle.nq_language.specs.Abbreviations.{is_word, Listing, Conditional, Choice, Binding, Quotation, Nesting, Path, Outside, Plain, word_in}
use Rattle.nq_language.specs.Objects.{nil_term, number_term, value}
use Rattle.nq_language.specs.Translation.{list_term, nested_term, path_call, quoted_term, translated}

-- T, F, NIL, or what stands for a variable
abbrev pub symbol_term_in : Substitution → Name → Term
symbol_term_in scope x = if is_word "T" x then true_term else (if is_word "F" x then false_term else (if is_word "NIL" x then nil_term else value_at scope x))

module _ (arity : Name → Option ℕ) where
  unfoldable mutual
    pub translated_in : Substitution → Form → Term
    translated_in scope (symbol x) = symbol_term_in scope x
    translated_in scope (numeral_form negative n) = number_term negative n
    translated_in scope (text bytes) = nil_term
    translated_in scope (quoted f) = value f
    translated_in scope (listed end) = nil_term
    translated_in scope (listed (next (symbol f) fs)) = elim (word_in arity f) [
      | Listing ↦ list_term (all_translated_in scope fs)
      | Conditional ↦ conditional_term_in scope fs
      | Choice ↦ choice_term_in scope fs
      | Binding ↦ binding_term_in scope fs
      | Quotation ↦ quoted_term fs
      | Nesting ↦ nested_term f (all_translated_in scope fs)
      | Path letters ↦ path_call letters (all_translated_in scope fs)
      | Outside ↦ nil_term
      | Plain ↦ call f (all_translated_in scope fs)
    ]
    translated_in scope (listed fs) = nil_term

    pub all_translated_in : Substitution → Forms → List Term
    all_translated_in scope end = []
    all_translated_in scope (dotted f) = []
    all_translated_in scope (next f fs) = translated_in scope f ∷ all_translated_in scope fs

    pub conditional_term_in : Substitution → Forms → Term
    conditional_term_in scope (next (listed (next t (next v end))) end) = translated_in scope v
    conditional_term_in scope (next (listed (next t (next v end))) fs) = if_term (translated_in scope t) (translated_in scope v) (conditional_term_in scope fs)
    conditional_term_in scope _ = nil_term

    pub choice_term_in : Substitution → Forms → Term
    choice_term_in scope (next x fs) = keyed_term_in scope (translated_in scope x) fs
    choice_term_in scope _ = nil_term

    pub keyed_term_in : Substitution → Term → Forms → Term
    keyed_term_in scope x (next (listed (next k (next v end))) end) = translated_in scope v
    keyed_term_in scope x (next (listed (next k (next v end))) fs) = if_term (equal_term x (value k)) (translated_in scope v) (keyed_term_in scope x fs)
    keyed_term_in scope x _ = nil_term

    -- the terms of the new variables stand before those of the outer ones
    pub binding_term_in : Substitution → Forms → Term
    binding_term_in scope (next (listed bindings) (next body end)) = translated_in (bound_in scope bindings ++ scope) body
    binding_term_in scope _ = nil_term

    pub bound_in : Substitution → Forms → Substitution
    bound_in scope (next (listed (next (symbol x) (next t end))) fs) = (x, translated_in scope t) ∷ bound_in scope fs
    bound_in scope _ = []

-- A term is the same whether variables are replaced in it afterwards or their terms are in hand.
abbrev pub ScopesAgree : Type 0
ScopesAgree = (arity : Name → Option ℕ) (scope : Substitution) (f : Form) → translated_in arity scope f ≡ substituted scope (translated arity f)

-- nothing is bound at first
abbrev pub EmptyScope : Type 0
EmptyScope = (arity : Name → Option ℕ) (f : Form) → translated_in arity [] f ≡ translated arity f
