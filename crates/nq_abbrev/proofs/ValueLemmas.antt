-- The values of lists, and how deep they are.
use Rattle.std.proofs.Common.{◌≡◌, ℕ, zero, suc, ◌-◌, ◌<◌, ◌≤◌, List, [], ◌∷◌, length, get_or, drop, drop-cons, refl, ap, sym, ◌∙◌, subst, arith, Bor}
use Rattle.std.specs.Prelude.{Option, codes}
use Rattle.nq_logic.specs.Terms.{Term}
use Rattle.nq_logic.specs.Words.{call2, literal_atom}
use Rattle.nq_logic.specs.Sizes.{depth_of, depth_limit}
use Rattle.nq_form.specs.Form.{Form, Forms, quoted, listed, end, dotted}
use Rattle.nq_language.specs.Objects.{cons_term, nil_term, value, values}
use Rattle.nq_sexp.specs.declared.Sexp.{Sexp}
use Rattle.nq_sexp.specs.declared.Sexp.TheVariants.{List as list_form, Quote as quote_form}
use Rattle.nq_sexp.specs.Tree.{tree, trees, tail_of}
use Rattle.nq_sexp.proofs.Trees.{tree-Quote}
use Rattle.nq_abbrev.specs.Values.{values_before, quotation_term}
use Rattle.nq_abbrev.proofs.PairLemmas.{list_is}
use Rattle.nq_abbrev.proofs.MakingLemmas.{deep_first, deep_second}

trees_before : (items : List Sexp) (rest : Forms) → values (trees items rest) ≡ values_before items (values rest)
unfolding value
trees_before [] rest = refl
trees_before (x ∷ items) rest = ap (λ (z : Term). cons_term (value (tree x)) z) (trees_before items rest)

listed_value : (fs : Forms) → value (listed fs) ≡ values fs
unfolding value
listed_value fs = refl

pub end_value : values end ≡ nil_term
unfolding value
end_value = refl

pub dotted_value : (f : Form) → values (dotted f) ≡ value f
unfolding value
dotted_value f = refl

quoted_value : (f : Form) → value (quoted f) ≡ quotation_term (value f)
unfolding value
quoted_value f = refl

-- the value of a list, by that of what stands behind its elements
pub list_value : (form : Sexp) (items : Bor (List Sexp)) (tail known : Option (Bor Sexp)) (last : Term) → form ≡ list_form items tail → tail ≡ known → last ≡ values (tail_of known) → values_before items.now last ≡ value (tree form)
list_value form items tail known last is same e =
    ap (λ (z : Term). values_before items.now z) e ∙ sym (ap value (list_is form items tail known is same) ∙ listed_value (trees items.now (tail_of known)) ∙ trees_before items.now (tail_of known))

pub quote_value : (form : Sexp) (inner : Bor Sexp) (object : Term) → form ≡ quote_form inner → object ≡ value (tree inner.now) → quotation_term object ≡ value (tree form)
quote_value form inner object is e = ap (λ (z : Term). quotation_term z) e ∙ sym (ap value (ap tree is ∙ tree-Quote inner) ∙ quoted_value (tree inner.now))

pub deep_last : (items : List Sexp) (last : Term) → depth_limit < depth_of last → depth_limit < depth_of (values_before items last)
deep_last [] last h = h
deep_last (x ∷ items) last h = deep_second (codes "CONS") (value (tree x)) (values_before items last) (deep_last items last h)

deep_from : (k : ℕ) (items : List Sexp) (last : Term) → depth_limit < depth_of (values_before (drop k items) last) → depth_limit < depth_of (values_before items last)
deep_from zero items last h = h
deep_from (suc k) [] last h = h
deep_from (suc k) (x ∷ items) last h = deep_second (codes "CONS") (value (tree x)) (values_before items last) (deep_from k items last h)

-- the values from a place on, with the one before it
pub deep_before : (items : List Sexp) (place : ℕ) (x : Sexp) (last : Term) → 0 < place → place ≤ length items → x ≡ get_or items (place - 1) x
    → depth_limit < depth_of (call2 "CONS" (value (tree x)) (values_before (drop place items) last)) → depth_limit < depth_of (values_before items last)
deep_before items zero x last lo hi is h = absurd (omega arith)
deep_before items (suc k) x last lo hi is h =
    let less : suc k - 1 ≡ k = omega arith in
    let here : k < length items = omega arith in
    let at : x ≡ get_or items k x = is ∙ ap (λ j. get_or items j x) less in
    let same = ap (λ (z : Sexp). call2 "CONS" (value (tree z)) (values_before (drop (suc k) items) last)) at ∙ sym (ap (λ (z : List Sexp). values_before z last) (drop-cons items k x here)) in
    deep_from k items last (subst (λ (t : Term). depth_limit < depth_of t) same h)

-- an element whose value is too deep
pub deep_item : (items : List Sexp) (place : ℕ) (x : Sexp) (last : Term) → 0 < place → place ≤ length items → x ≡ get_or items (place - 1) x → depth_limit < depth_of (value (tree x)) → depth_limit < depth_of (values_before items last)
deep_item items place x last lo hi is h = deep_before items place x last lo hi is (deep_first (codes "CONS") (value (tree x)) (values_before (drop place items) last) h)

pub deep_quotation : (t : Term) → depth_limit < depth_of (cons_term t nil_term) → depth_limit < depth_of (quotation_term t)
deep_quotation t h = deep_second (codes "CONS") (literal_atom "QUOTE") (cons_term t nil_term) h

pub deep_word : (t : Term) → depth_limit < depth_of (literal_atom "QUOTE") → depth_limit < depth_of (quotation_term t)
deep_word t h = deep_first (codes "CONS") (literal_atom "QUOTE") (cons_term t nil_term) h

pub deep_quoted : (t : Term) → depth_limit < depth_of t → depth_limit < depth_of (quotation_term t)
deep_quoted t h = deep_quotation t (deep_first (codes "CONS") t nil_term h)
