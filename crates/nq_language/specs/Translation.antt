-- The terms for which forms stand.
use Rattle.std.specs.Prelude.{ℕ, nat_eq, Option, if◌then◌else◌, List, [], ◌∷◌}
use Rattle.nq_logic.specs.Terms.{Name, Term, Variable, call, Substitution, substituted}
use Rattle.nq_logic.specs.Words.{call1, true_term, false_term, if_term, equal_term}
use Rattle.nq_form.specs.Form.{Form, Forms, symbol, numeral as numeral_form, text, quoted, listed, end, dotted, next}
use Rattle.nq_language.specs.Abbreviations.{is_word, Listing, Conditional, Choice, Binding, Quotation, Nesting, Path, Outside, Plain, word_in}
use Rattle.nq_language.specs.Objects.{cons_term, nil_term, number_term, value}

-- T, F, NIL, or a variable
abbrev pub symbol_term : Name → Term
symbol_term x = if is_word "T" x then true_term else (if is_word "F" x then false_term else (if is_word "NIL" x then nil_term else Variable x))

-- a CONS nest that ends in NIL
abbrev pub list_term : List Term → Term
list_term [] = nil_term
list_term (t ∷ ts) = cons_term t (list_term ts)

-- more than two arguments are nested to the right
abbrev pub nested_term : Name → List Term → Term
nested_term f [] = call f []
nested_term f (t ∷ []) = call f (t ∷ [])
nested_term f (t ∷ u ∷ []) = call f (t ∷ u ∷ [])
nested_term f (t ∷ u ∷ v ∷ ts) = call f (t ∷ nested_term f (u ∷ v ∷ ts) ∷ [])

abbrev pub letter_term : ℕ → Term → Term
letter_term b t = if nat_eq b 65 then call1 "CAR" t else call1 "CDR" t

abbrev pub path_term : List ℕ → Term → Term
path_term [] t = t
path_term (b ∷ bs) t = letter_term b (path_term bs t)

abbrev pub path_call : List ℕ → List Term → Term
path_call letters [] = nil_term
path_call letters (t ∷ ts) = path_term letters t

-- the value of the one quoted object
abbrev pub quoted_term : Forms → Term
quoted_term (next f fs) = value f
quoted_term _ = nil_term

module _ (arity : Name → Option ℕ) where
  unfoldable mutual
    -- The term of a form that isn't refused; of another form it is some term.
    pub translated : Form → Term
    translated (symbol x) = symbol_term x
    translated (numeral_form negative n) = number_term negative n
    translated (text bytes) = nil_term
    translated (quoted f) = value f
    translated (listed end) = nil_term
    translated (listed (next (symbol f) fs)) = elim (word_in arity f) [
      | Listing ↦ list_term (all_translated fs)
      | Conditional ↦ conditional_term fs
      | Choice ↦ choice_term fs
      | Binding ↦ binding_term fs
      | Quotation ↦ quoted_term fs
      | Nesting ↦ nested_term f (all_translated fs)
      | Path letters ↦ path_call letters (all_translated fs)
      | Outside ↦ nil_term
      | Plain ↦ call f (all_translated fs)
    ]
    translated (listed fs) = nil_term

    pub all_translated : Forms → List Term
    all_translated end = []
    all_translated (dotted f) = []
    all_translated (next f fs) = translated f ∷ all_translated fs

    -- (COND (t1 v1) ... (T vn)): nested IFs
    pub conditional_term : Forms → Term
    conditional_term (next (listed (next t (next v end))) end) = translated v
    conditional_term (next (listed (next t (next v end))) fs) = if_term (translated t) (translated v) (conditional_term fs)
    conditional_term _ = nil_term

    -- (CASE x (k1 v1) ... (OTHERWISE vn)): nested IFs on (EQUAL x 'k)
    pub choice_term : Forms → Term
    choice_term (next x fs) = keyed_term (translated x) fs
    choice_term _ = nil_term

    pub keyed_term : Term → Forms → Term
    keyed_term x (next (listed (next k (next v end))) end) = translated v
    keyed_term x (next (listed (next k (next v end))) fs) = if_term (equal_term x (value k)) (translated v) (keyed_term x fs)
    keyed_term x _ = nil_term

    -- (LET ((v1 t1) ...) body): the body with all the variables replaced at once
    pub binding_term : Forms → Term
    binding_term (next (listed bindings) (next body end)) = substituted (bound bindings) (translated body)
    binding_term _ = nil_term

    pub bound : Forms → Substitution
    bound (next (listed (next (symbol x) (next t end))) fs) = (x, translated t) ∷ bound fs
    bound _ = []
