-- The elements of lists, and what each of them is read as.
use Rattle.std.proofs.Common.{◌≡◌, Bool, true, false, List, [], ◌∷◌, refl, sym, ap, ◌∙◌, Bor}
use Rattle.std.specs.Prelude.{Option, None, Some, is_some, ◌&&◌}
use Rattle.std.specs.List.{list_all}
use Rattle.std.specs.Option.{option_map, option_and_then}
use Rattle.nq_form.specs.Form.{Form, listed, end, dotted}
use Rattle.nq_events.specs.Parts.{proper, elements, each, each_in, with_first}
use Rattle.nq_sexp.specs.declared.Sexp.{Sexp}
use Rattle.nq_sexp.specs.declared.Sexp.TheVariants.{List as list_form}
use Rattle.nq_sexp.specs.Tree.{tree, trees, tail_of}
use Rattle.nq_sexp.proofs.Trees.{tree-List}
use Rattle.nq_event.specs.Reads.{forms_of, value_or, read_each}

pub proper_straight : (items : List Sexp) → proper (trees items end) ≡ Some (forms_of items)
proper_straight [] = refl
proper_straight (f ∷ items) = ap (option_map (λ (rest : List Form). tree f ∷ rest)) (proper_straight items)

pub proper_dotted : (items : List Sexp) (last : Form) → proper (trees items (dotted last)) ≡ None
proper_dotted [] last = refl
proper_dotted (f ∷ items) last = ap (option_map (λ (rest : List Form). tree f ∷ rest)) (proper_dotted items last)

-- the tree of a list, by its elements and its tail
list_is : (form : Sexp) (items : Bor (List Sexp)) (tail known : Option (Bor Sexp)) → form ≡ list_form items tail → tail ≡ known → tree form ≡ listed (trees items.now (tail_of known))
list_is form items tail known e k = ap tree e ∙ tree-List items tail ∙ ap (λ (z : Option (Bor Sexp)). listed (trees items.now (tail_of z))) k

pub elements_straight : (form : Sexp) (items : Bor (List Sexp)) (tail : Option (Bor Sexp)) → form ≡ list_form items tail → tail ≡ None → Some (forms_of items.now) ≡ elements (tree form)
elements_straight form items tail e k = sym (ap elements (list_is form items tail None e k) ∙ proper_straight items.now)

pub elements_dotted : (form : Sexp) (items : Bor (List Sexp)) (tail : Option (Bor Sexp)) (last : Bor Sexp) → form ≡ list_form items tail → tail ≡ Some last → None ≡ elements (tree form)
elements_dotted form items tail last e k = sym (ap elements (list_is form items tail (Some last) e k) ∙ proper_dotted items.now (tree last.now))

-- what stands behind the elements tells whether the list is proper
pub straight_rest : (items : List Sexp) (tail : Option (Bor Sexp)) → tail ≡ None → Some (forms_of items) ≡ proper (trees items (tail_of tail))
straight_rest items tail k = sym (ap (λ (z : Option (Bor Sexp)). proper (trees items (tail_of z))) k ∙ proper_straight items)

pub dotted_rest : (items : List Sexp) (tail : Option (Bor Sexp)) (last : Bor Sexp) → tail ≡ Some last → None ≡ proper (trees items (tail_of tail))
dotted_rest items tail last k = sym (ap (λ (z : Option (Bor Sexp)). proper (trees items (tail_of z))) k ∙ proper_dotted items (tree last.now))

-- one form more, where all others are read
first_read : {X : Type 0} (o : Option X) (other : X) (b : Bool) (rest : Option (List X)) (xs : List X) → (is_some o && b) ≡ true → (b ≡ true → rest ≡ Some xs) → with_first o rest ≡ Some (value_or other o ∷ xs)
first_read None other b rest xs h k = absurd (cc)
first_read (Some x) other b rest xs h k = ap (with_first (Some x)) (k h)

first_unread : {X : Type 0} (o : Option X) (b : Bool) (rest : Option (List X)) → (is_some o && b) ≡ false → (b ≡ false → rest ≡ None) → with_first o rest ≡ None
first_unread None b rest h k = refl
first_unread (Some x) b rest h k = ap (with_first (Some x)) (k h)

each_read : {X : Type 0} (read : Form → Option X) (other : X) (items : List Sexp) → list_all (λ (f : Sexp). is_some (read (tree f))) items ≡ true → each read (forms_of items) ≡ Some (read_each read other items)
each_read read other [] h = refl
each_read read other (f ∷ items) h =
    first_read (read (tree f)) other (list_all (λ (g : Sexp). is_some (read (tree g))) items) (each read (forms_of items)) (read_each read other items) h (each_read read other items)

each_unread : {X : Type 0} (read : Form → Option X) (items : List Sexp) → list_all (λ (f : Sexp). is_some (read (tree f))) items ≡ false → each read (forms_of items) ≡ None
each_unread read [] h = absurd (cc)
each_unread read (f ∷ items) h =
    first_unread (read (tree f)) (list_all (λ (g : Sexp). is_some (read (tree g))) items) (each read (forms_of items)) h (each_unread read items)

-- as answers want it
pub all_read : {X : Type 0} (read : Form → Option X) (other : X) (items : List Sexp) (b : Bool) → b ≡ list_all (λ (f : Sexp). is_some (read (tree f))) items → b ≡ true → Some (read_each read other items) ≡ each read (forms_of items)
all_read read other items b e h = sym (each_read read other items (sym e ∙ h))

pub not_all_read : {X : Type 0} (read : Form → Option X) (items : List Sexp) (b : Bool) → b ≡ list_all (λ (f : Sexp). is_some (read (tree f))) items → b ≡ false → None ≡ each read (forms_of items)
not_all_read read items b e h = sym (each_unread read items (sym e ∙ h))

pub list_read : {X : Type 0} (read : Form → Option X) (other : X) (form : Form) (items : List Sexp) (b : Bool) → Some (forms_of items) ≡ elements form → b ≡ list_all (λ (f : Sexp). is_some (read (tree f))) items → b ≡ true
    → Some (read_each read other items) ≡ each_in read form
list_read read other form items b is e h = all_read read other items b e h ∙ ap (option_and_then (each read)) is

pub list_unread : {X : Type 0} (read : Form → Option X) (form : Form) (items : List Sexp) (b : Bool) → Some (forms_of items) ≡ elements form → b ≡ list_all (λ (f : Sexp). is_some (read (tree f))) items → b ≡ false → None ≡ each_in read form
list_unread read form items b is e h = not_all_read read items b e h ∙ ap (option_and_then (each read)) is
