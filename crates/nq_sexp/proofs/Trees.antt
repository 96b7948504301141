-- A list in the arena has the trees of its elements.
use Rattle.std.proofs.Common.{◌≡◌, ℕ, Bool, List, ◌∙◌, refl, ap, Bor}
use Rattle.std.specs.Prelude.{Option, None, Some}
use mathlib.Core.Former.{Count}
use Rattle.nq_form.specs.Form.{Forms, symbol, numeral, text, quoted, listed, end, dotted, next}
use Rattle.nq_sexp.specs.Tree.{tree, row_trees, tail_trees, trees, tail_of}
use Rattle.nq_sexp.specs.declared.Sexp.{Sexp, Symbol, Numeral, Str, List', Row_of-Sexp, end_of-Sexp, more_of-Sexp, items-the_row-Sexp, items_hidden-the_row-Sexp-0}
use Rattle.nq_sexp.specs.declared.Sexp.TheVariants.{List as list_form, Quote as quote_form}

row_trees-items : (n : _) (row : Row_of-Sexp n) (rest : Forms) → row_trees row rest ≡ trees (items-the_row-Sexp n row) rest
unfolding row_trees
row_trees-items n end_of-Sexp rest = refl
row_trees-items n (more_of-Sexp form row) rest = ap (λ (z : Forms). next (tree form) z) (row_trees-items _ row rest)

abbrev row_of : Sexp → (n : Count) × Row_of-Sexp n
row_of (List' _ _ row tail) = (_, row)
row_of _ = (_, end_of-Sexp)

with_rest : (items : Bor (List Sexp)) (tail : Option (Bor Sexp)) (rest : Forms) → row_trees (row_of (list_form items tail)).1 rest ≡ trees items.now rest
with_rest items tail rest =
    let row = row_of (list_form items tail) in
    row_trees-items row.0 row.1 rest ∙ ap (λ (z : List Sexp). trees z rest) (items_hidden-the_row-Sexp-0 items.now)

pub tree-Symbol : (name : Bor (List ℕ)) → tree (Symbol name) ≡ symbol name.now
unfolding tree
tree-Symbol name = refl

pub tree-Numeral : (negative : Bool) (n : ℕ) → tree (Numeral negative n) ≡ numeral negative n
unfolding tree
tree-Numeral negative n = refl

pub tree-Str : (bytes : Bor (List ℕ)) → tree (Str bytes) ≡ text bytes.now
unfolding tree
tree-Str bytes = refl

pub tree-Quote : (form : Bor Sexp) → tree (quote_form form) ≡ quoted (tree form.now)
unfolding tree
tree-Quote form = refl

pub tree-List : (items : Bor (List Sexp)) (tail : Option (Bor Sexp)) → tree (list_form items tail) ≡ listed (trees items.now (tail_of tail))
unfolding tree tail_trees
tree-List items None = ap listed (with_rest items None end)
tree-List items (Some form) = ap listed (with_rest items (Some form) (dotted (tree form.now)))

-- the same by the tail, from what the elements are
pub tree-list : (items : Bor (List Sexp)) (forms : List Sexp) → items.now ≡ forms → tree (list_form items None) ≡ listed (trees forms end)
tree-list items forms e = tree-List items None ∙ ap (λ (z : List Sexp). listed (trees z end)) e

pub tree-dotted_list : (items : Bor (List Sexp)) (form : Bor Sexp) (forms : List Sexp) (last : Sexp) → items.now ≡ forms → form.now ≡ last → tree (list_form items (Some form)) ≡ listed (trees forms (dotted (tree last)))
tree-dotted_list items form forms last e d =
    tree-List items (Some form) ∙ ap (λ (z : List Sexp). listed (trees z (dotted (tree form.now)))) e ∙ ap (λ (z : Sexp). listed (trees forms (dotted (tree z)))) d

-- the tree of each kind of form
pub ruleset tree_rules = (tree-Symbol, tree-Numeral, tree-Str, tree-Quote, tree-List)
