-- Lists of two forms.
use Rattle.std.proofs.Common.{◌≡◌, suc, Bool, true, ◌<◌, ◌≤◌, false, arith, List, [], ◌∷◌, length, get_or, refl, ap, sym, ◌∙◌, Bor}
use Rattle.std.specs.Prelude.{Option, None, Some, if◌then◌else◌}
use Rattle.nq_form.specs.Form.{Form, Forms, listed, end, dotted, next}
use Rattle.nq_language.specs.Refusals.{is_pair, is_dotted, is_single, count}
use Rattle.nq_sexp.specs.declared.Sexp.{Sexp}
use Rattle.nq_sexp.specs.declared.Sexp.TheVariants.{List as list_form}
use Rattle.nq_sexp.specs.Tree.{tree, trees, tail_of}
use Rattle.nq_abbrev.specs.Parts.{elements_of}
use Rattle.nq_sexp.proofs.Trees.{tree-List}

pub two_trees : (items : List Sexp) (d e : Sexp) → 2 ≤ length items → length items < 3 → trees items end ≡ next (tree (get_or items 0 d)) (next (tree (get_or items 1 e)) end)
two_trees [] d e h k = absurd (omega arith)
two_trees (f ∷ []) d e h k = absurd (omega arith)
two_trees (f ∷ g ∷ []) d e h k = refl
two_trees (f ∷ g ∷ i ∷ items) d e h k = absurd (omega arith)

pub two_are : (items : List Sexp) (f g : Sexp) → f ≡ get_or items 0 f → g ≡ get_or items 1 g → 2 ≤ length items → length items < 3 → trees items end ≡ next (tree f) (next (tree g) end)
two_are items f g h k two three =
    two_trees items f g two three ∙ ap (λ (z : Sexp). next (tree z) (next (tree (get_or items 1 g)) end)) (sym h) ∙ ap (λ (z : Sexp). next (tree f) (next (tree z) end)) (sym k)

pub no_pair_few : (items : List Sexp) → length items < 2 → is_pair (listed (trees items end)) ≡ false
no_pair_few [] h = refl
no_pair_few (f ∷ []) h = refl
no_pair_few (f ∷ g ∷ items) h = absurd (omega arith)

pub no_pair_many : (items : List Sexp) → 3 ≤ length items → is_pair (listed (trees items end)) ≡ false
no_pair_many [] h = absurd (omega arith)
no_pair_many (f ∷ []) h = absurd (omega arith)
no_pair_many (f ∷ g ∷ []) h = absurd (omega arith)
no_pair_many (f ∷ g ∷ i ∷ items) h = refl

pub no_pair_dotted : (items : List Sexp) (last : Form) → is_pair (listed (trees items (dotted last))) ≡ false
no_pair_dotted [] last = refl
no_pair_dotted (f ∷ []) last = refl
no_pair_dotted (f ∷ g ∷ []) last = refl
no_pair_dotted (f ∷ g ∷ i ∷ items) last = refl

-- the tree of a list, by its elements and its tail
pub list_is : (form : Sexp) (items : Bor (List Sexp)) (tail known : Option (Bor Sexp)) → form ≡ list_form items tail → tail ≡ known → tree form ≡ listed (trees items.now (tail_of known))
list_is form items tail known e k = ap tree e ∙ tree-List items tail ∙ ap (λ (z : Option (Bor Sexp)). listed (trees items.now (tail_of z))) k

straight_trees : (items : List Sexp) → is_dotted (trees items end) ≡ false
straight_trees [] = refl
straight_trees (f ∷ items) = straight_trees items

dotted_trees : (items : List Sexp) (last : Form) → is_dotted (trees items (dotted last)) ≡ true
dotted_trees [] last = refl
dotted_trees (f ∷ items) last = dotted_trees items last

straight_by : (c : Bool) (fs : Forms) → c ≡ false → Some fs ≡ (if c then None else Some fs)
straight_by true fs h = absurd (cc)
straight_by false fs h = refl

dotted_by : (c : Bool) (o : Option Forms) → c ≡ true → None ≡ (if c then None else o)
dotted_by true o h = refl
dotted_by false o h = absurd (cc)

pub elements_straight : (items : List Sexp) → Some (trees items end) ≡ elements_of (listed (trees items end))
elements_straight items = straight_by (is_dotted (trees items end)) (trees items end) (straight_trees items)

pub elements_dotted : (items : List Sexp) (last : Form) → None ≡ elements_of (listed (trees items (dotted last)))
elements_dotted items last = dotted_by (is_dotted (trees items (dotted last))) (Some (trees items (dotted last))) (dotted_trees items last)

pub single_trees : (items : List Sexp) → length items ≡ 1 → is_single (trees items end) ≡ true
single_trees [] h = absurd (omega arith)
single_trees (f ∷ []) h = refl
single_trees (f ∷ g ∷ items) h = absurd (omega arith)

pub other_trees : (items : List Sexp) → (length items ≡ 1 → ⊥) → is_single (trees items end) ≡ false
other_trees [] h = refl
other_trees (f ∷ []) h = absurd (h refl)
other_trees (f ∷ g ∷ items) h = refl

pub count_trees : (items : List Sexp) → count (trees items end) ≡ length items
count_trees [] = refl
count_trees (f ∷ items) = ap suc (count_trees items)

pub first_of_two : (items : List Sexp) (f : Sexp) → f ≡ get_or items 0 f → 2 ≤ length items → length items < 3 → trees items end ≡ next (tree f) (next (tree (get_or items 1 f)) end)
first_of_two items f is two three = two_trees items f f two three ∙ ap (λ (z : Sexp). next (tree z) (next (tree (get_or items 1 f)) end)) (sym is)

pub second_of_two : (items : List Sexp) (g : Sexp) → g ≡ get_or items 1 g → 2 ≤ length items → length items < 3 → trees items end ≡ next (tree (get_or items 0 g)) (next (tree g) end)
second_of_two items g is two three = two_trees items g g two three ∙ ap (λ (z : Sexp). next (tree (get_or items 0 g)) (next (tree z) end)) (sym is)
