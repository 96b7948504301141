-- The shape of LET.
use Rattle.std.proofs.Common.{ℕ, zero, suc, ◌+◌, ◌++◌, subst, Bor, drop, ◌≡◌, Bool, true, false, ◌<◌, ◌≤◌, arith, List, [], ◌∷◌, length, get_or, refl, ap, sym, ◌∙◌}
use Rattle.std.specs.Prelude.{Option, None, Some, ◌&&◌, if◌then◌else◌, is_some}
use Rattle.std.proofs.lemmas.List.{length-drop}
use Rattle.std.specs.Prelude.{codes}
use Rattle.nq_logic.specs.Terms.{Name, Substitution}
use Rattle.nq_language.specs.Scopes.{translated_in, binding_term_in, bound_in}
use Rattle.nq_form.specs.Form.{Form, Forms, symbol, numeral, text, quoted, listed, end, dotted, next}
use Rattle.nq_abbrev.specs.InScope.{let_met, value_term_in, IsSameOrDeep, IsLike}
use Rattle.nq_language.specs.Refusals.{BadAbbreviation, first, is_pair, met, bound_met, binding_met, Met, bad, is_dotted, are_bindings, are_different, constants_met, bindings_met, binding_own, bound_name}
use Rattle.nq_sexp.specs.declared.Sexp.{Sexp}
use Rattle.nq_sexp.specs.Tree.{tree, trees, tail_of}
use Rattle.nq_abbrev.specs.Parts.{elements_of, value_met}
use Rattle.nq_abbrev.proofs.RefusalLemmas.{at_place, bound_pair, let_parts}
use Rattle.nq_abbrev.proofs.ClauseLemmas.{first_unmet}
use Rattle.nq_abbrev.proofs.LikeLemmas.{like_more, scope_append}
use Rattle.nq_bank.specs.declared.node.TermId.{TermId}
use Rattle.nq_bank.specs.Content.{Content}
use Rattle.nq_abbrev.specs.declared.scope.Binding.{Binding}
use Rattle.nq_abbrev.specs.Pairs.{name_at}
use Rattle.nq_abbrev.specs.Scope.{scope_at, bound_term, binding_of}
use Rattle.nq_abbrev.proofs.PairLemmas.{two_trees}

one_own : (f : Form) → binding_own (next f end) ≡ bad "LET"
one_own (symbol x) = refl
one_own (numeral negative n) = refl
one_own (text bytes) = refl
one_own (quoted f) = refl
one_own (listed fs) = refl

three_own : (f g h : Form) (fs : Forms) → binding_own (next f (next g (next h fs))) ≡ bad "LET"
three_own (symbol x) g h fs = refl
three_own (numeral negative n) g h fs = refl
three_own (text bytes) g h fs = refl
three_own (quoted f) g h fs = refl
three_own (listed gs) g h fs = refl

pub own_few : (items : List Sexp) → length items < 2 → binding_own (trees items end) ≡ bad "LET"
own_few [] h = refl
own_few (f ∷ []) h = one_own (tree f)
own_few (f ∷ g ∷ items) h = absurd (omega arith)

pub own_many : (items : List Sexp) → 3 ≤ length items → binding_own (trees items end) ≡ bad "LET"
own_many [] h = absurd (omega arith)
own_many (f ∷ []) h = absurd (omega arith)
own_many (f ∷ g ∷ []) h = absurd (omega arith)
own_many (f ∷ g ∷ i ∷ items) h = three_own (tree f) (tree g) (tree i) (trees items end)

and_false : (a b : Bool) → b ≡ false → (a && b) ≡ false
and_false true b h = h
and_false false b h = refl

dotted_unbound : (fs : Forms) → is_dotted fs ≡ true → are_bindings fs ≡ false
dotted_unbound end h = absurd (cc)
dotted_unbound (dotted f) h = refl
dotted_unbound (next f fs) h = and_false (is_some (bound_name f)) (are_bindings fs) (dotted_unbound fs h)

-- by the elements of the list of bindings
abbrev own_of : Option Forms → Met
own_of None = bad "LET"
own_of (Some fs) = bindings_met fs

own_straight : (d : Bool) (fs : Forms) → is_dotted fs ≡ d → bindings_met fs ≡ own_of (if d then None else Some fs)
own_straight true fs h = ap (λ b. if b && are_different fs then constants_met fs else bad "LET") (dotted_unbound fs h)
own_straight false fs h = refl

two_own : (f g : Form) → binding_own (next f (next g end)) ≡ own_of (elements_of f)
two_own (symbol x) g = refl
two_own (numeral negative n) g = refl
two_own (text bytes) g = refl
two_own (quoted f) g = refl
two_own (listed fs) g = own_straight (is_dotted fs) fs refl

pub own_two : (items : List Sexp) (b : Sexp) → b ≡ get_or items 0 b → 2 ≤ length items → length items < 3 → (o : Option Forms) → o ≡ elements_of (tree b) → binding_own (trees items end) ≡ own_of o
own_two items b is two three o e =
    ap binding_own (two_trees items b b two three) ∙ ap (λ (z : Sexp). binding_own (next (tree z) (next (tree (get_or items 1 b)) end))) (sym is) ∙ two_own (tree b) (tree (get_or items 1 b)) ∙ ap own_of (sym e)

second_at : (items : List Sexp) (b : Sexp) → 2 ≤ length items → b ≡ get_or items 1 b → b ≡ get_or (drop 1 items) 0 b
second_at [] b two is = absurd (omega arith)
second_at (i ∷ items) b two is = is

some_none : (f : List ℕ) → Some (BadAbbreviation f) ≡ None → ⊥
some_none f h = cc

let_refused : (arity : Name → Option ℕ) (fs : Forms) → binding_own fs ≡ bad "LET" → let_met arity fs ≡ None → ⊥
let_refused arity fs e h = some_none (codes "LET") (sym (ap (λ (z : Met). first z (binding_met arity fs)) e) ∙ h)

-- LET of another shape is refused
pub two_refused : (arity : Name → Option ℕ) (items : List Sexp) → length items < 3 → let_met arity (trees (drop 1 items) end) ≡ None → ⊥
two_refused arity items few h = let_refused arity (trees (drop 1 items) end) (own_few (drop 1 items) (omega (arith, length-drop 1 items))) h

pub many_refused : (arity : Name → Option ℕ) (items : List Sexp) → 4 ≤ length items → let_met arity (trees (drop 1 items) end) ≡ None → ⊥
many_refused arity items many h = let_refused arity (trees (drop 1 items) end) (own_many (drop 1 items) (omega (arith, length-drop 1 items))) h

pub unlisted_refused : (arity : Name → Option ℕ) (items : List Sexp) (b : Sexp) (f : Form) → 3 ≤ length items → length items < 4 → b ≡ get_or items 1 b → tree b ≡ f → None ≡ elements_of f → let_met arity (trees (drop 1 items) end) ≡ None → ⊥
unlisted_refused arity items b f lo hi at is none h =
    let_refused arity (trees (drop 1 items) end) (own_two (drop 1 items) b (second_at items b (omega arith) at) (omega (arith, length-drop 1 items)) (omega (arith, length-drop 1 items)) None (none ∙ sym (ap elements_of is))) h

both : (a b : Bool) → (a && b) ≡ true → (a ≡ true) × (b ≡ true)
both true b h = (refl, h)
both false b h = absurd (cc)

headed_name : (f : Form) (fs : Forms) → is_some (bound_name (listed (next f fs))) ≡ true → is_pair (listed (next f fs)) ≡ true
headed_name (symbol x) end h = absurd (cc)
headed_name (symbol x) (dotted g) h = absurd (cc)
headed_name (symbol x) (next g end) h = refl
headed_name (symbol x) (next g (dotted i)) h = absurd (cc)
headed_name (symbol x) (next g (next i fs)) h = absurd (cc)
headed_name (numeral negative n) fs h = absurd (cc)
headed_name (text bytes) fs h = absurd (cc)
headed_name (quoted f) fs h = absurd (cc)
headed_name (listed gs) fs h = absurd (cc)

named_pair : (f : Form) → is_some (bound_name f) ≡ true → is_pair f ≡ true
named_pair (symbol x) h = absurd (cc)
named_pair (numeral negative n) h = absurd (cc)
named_pair (text bytes) h = absurd (cc)
named_pair (quoted f) h = absurd (cc)
named_pair (listed end) h = absurd (cc)
named_pair (listed (dotted f)) h = absurd (cc)
named_pair (listed (next f fs)) h = headed_name f fs h

pub name_at_place : (items : List Sexp) (place : ℕ) (x : Sexp) → place < length items → x ≡ get_or items place x → are_bindings (trees items end) ≡ true → is_some (bound_name (tree x)) ≡ true
name_at_place [] place x lt is h = absurd (omega arith)
name_at_place (y ∷ items) zero x lt is h = ap (λ (z : Sexp). is_some (bound_name (tree z))) is ∙ (both (is_some (bound_name (tree y))) (are_bindings (trees items end)) h).0
name_at_place (y ∷ items) (suc place) x lt is h = name_at_place items place x (omega arith) is (both (is_some (bound_name (tree y))) (are_bindings (trees items end)) h).1

headed_bound : (arity : Name → Option ℕ) (s : Substitution) (f : Form) (fs gs : Forms) (x : Name) → bound_name (listed (next f fs)) ≡ Some x → bound_in arity s (next (listed (next f fs)) gs) ≡ (x, value_term_in arity s (listed (next f fs))) ∷ bound_in arity s gs
unfolding translated_in
headed_bound arity s (symbol y) end gs x h = absurd (cc)
headed_bound arity s (symbol y) (dotted g) gs x h = absurd (cc)
headed_bound arity s (symbol y) (next g end) gs x h = let same : y ≡ x = cc in ap (λ (z : Name). (z, translated_in arity s g) ∷ bound_in arity s gs) same
headed_bound arity s (symbol y) (next g (dotted i)) gs x h = absurd (cc)
headed_bound arity s (symbol y) (next g (next i fs)) gs x h = absurd (cc)
headed_bound arity s (numeral negative n) fs gs x h = absurd (cc)
headed_bound arity s (text bytes) fs gs x h = absurd (cc)
headed_bound arity s (quoted f) fs gs x h = absurd (cc)
headed_bound arity s (listed hs) fs gs x h = absurd (cc)

-- the first of bindings
bound_first : (arity : Name → Option ℕ) (s : Substitution) (f : Form) (gs : Forms) (x : Name) → bound_name f ≡ Some x → bound_in arity s (next f gs) ≡ (x, value_term_in arity s f) ∷ bound_in arity s gs
bound_first arity s (symbol y) gs x h = absurd (cc)
bound_first arity s (numeral negative n) gs x h = absurd (cc)
bound_first arity s (text bytes) gs x h = absurd (cc)
bound_first arity s (quoted f) gs x h = absurd (cc)
bound_first arity s (listed end) gs x h = absurd (cc)
bound_first arity s (listed (dotted f)) gs x h = absurd (cc)
bound_first arity s (listed (next f fs)) gs x h = headed_bound arity s f fs gs x h

pub bound_at_place : (arity : Name → Option ℕ) (s : Substitution) (items : List Sexp) (place : ℕ) (b : Sexp) (x : Name) → place < length items → b ≡ get_or items place b → bound_name (tree b) ≡ Some x
    → bound_in arity s (trees (drop place items) end) ≡ (x, value_term_in arity s (tree b)) ∷ bound_in arity s (trees (drop (place + 1) items) end)
bound_at_place arity s items place b x lt is h =
    ap (λ (z : List Sexp). bound_in arity s (trees z end)) (at_place items place b lt is) ∙ bound_first arity s (tree b) (trees (drop (place + 1) items) end) x h

pub no_bindings : (arity : Name → Option ℕ) (s : Substitution) → bound_in arity s end ≡ []
unfolding translated_in
no_bindings arity s = refl

-- the forms to which LET binds
pub bound_unmet : (arity : Name → Option ℕ) (items : List Sexp) (place : ℕ) (x : Sexp) → place < length items → x ≡ get_or items place x → are_bindings (trees items end) ≡ true → bound_met arity (trees items end) ≡ None → value_met arity (tree x) ≡ None
bound_unmet arity [] place x lt is h k = absurd (omega arith)
bound_unmet arity (y ∷ items) zero x lt is h k =
    let named = (both (is_some (bound_name (tree y))) (are_bindings (trees items end)) h).0 in
    let here = sym (bound_pair arity (tree y) (trees items end) (named_pair (tree y) named)) ∙ k in
    ap (λ (z : Sexp). value_met arity (tree z)) is ∙ (first_unmet (value_met arity (tree y)) (bound_met arity (trees items end)) here).0
bound_unmet arity (y ∷ items) (suc place) x lt is h k =
    let named = both (is_some (bound_name (tree y))) (are_bindings (trees items end)) h in
    let here = sym (bound_pair arity (tree y) (trees items end) (named_pair (tree y) named.0)) ∙ k in
    bound_unmet arity items place x (omega arith) is named.1 (first_unmet (value_met arity (tree y)) (bound_met arity (trees items end)) here).1

straight_bindings : (items : List Sexp) (tail : Option (Bor Sexp)) → are_bindings (trees items (tail_of tail)) ≡ true → tail_of tail ≡ end
straight_bindings [] None h = refl
straight_bindings [] (Some form) h = absurd (cc)
straight_bindings (x ∷ items) tail h = straight_bindings items tail (both (is_some (bound_name (tree x))) (are_bindings (trees items (tail_of tail))) h).1

shaped : (b : Bool) (m : Met) → (if b then m else bad "LET") ≡ None → b ≡ true
shaped true m h = refl
shaped false m h = absurd (cc)

let_is : (arity : Name → Option ℕ) (fs : Forms) (body : Form) → let_met arity (next (listed fs) (next body end)) ≡ first (bindings_met fs) (first (bound_met arity fs) (met arity body))
unfolding met
let_is arity fs body = refl

let_term : (arity : Name → Option ℕ) (s : Substitution) (fs : Forms) (body : Form) → translated_in arity (bound_in arity s fs ++ s) body ≡ binding_term_in arity s (next (listed fs) (next body end))
unfolding translated_in
let_term arity s fs body = refl

-- LET that isn't refused: its bindings, and its body
pub record LetUnmet (arity : Name → Option ℕ) (items bindings : List Sexp) (body : Sexp) : Type 0 where
  pub shape : are_bindings (trees bindings end) ≡ true
  pub bound : bound_met arity (trees bindings end) ≡ None
  pub body_met : met arity (tree body) ≡ None
  pub term : (s : Substitution) → translated_in arity (bound_in arity s (trees bindings end) ++ s) (tree body) ≡ binding_term_in arity s (trees (drop 1 items) end)

pub let_unmet : (arity : Name → Option ℕ) (items bindings : List Sexp) (tail : Option (Bor Sexp)) (b body : Sexp) → 3 ≤ length items → length items < 4 → b ≡ get_or items 1 b → body ≡ get_or items 2 body → tree b ≡ listed (trees bindings (tail_of tail))
    → let_met arity (trees (drop 1 items) end) ≡ None → LetUnmet arity items bindings body
let_unmet arity items bindings tail b body lo hi at_b at_body is h =
    let fs = trees bindings (tail_of tail) in
    let parts = let_parts arity items b body lo hi at_b at_body ∙ ap (λ (z : Form). next z (next (tree body) end)) is in
    let whole = sym (ap (let_met arity) parts ∙ let_is arity fs (tree body)) ∙ h in
    let own = first_unmet (bindings_met fs) (first (bound_met arity fs) (met arity (tree body))) whole in
    let inner = first_unmet (bound_met arity fs) (met arity (tree body)) own.1 in
    let good = (both (are_bindings fs) (are_different fs) (shaped (are_bindings fs && are_different fs) (constants_met fs) own.0)).0 in
    let ends = ap (λ (z : Forms). trees bindings z) (straight_bindings bindings tail good) in
    record {
      shape = subst (λ (z : Forms). are_bindings z ≡ true) ends good;
      bound = subst (λ (z : Forms). bound_met arity z ≡ None) ends inner.0;
      body_met = inner.1;
      term = λ s. let_term arity s (trees bindings end) (tree body) ∙ ap (binding_term_in arity s) (sym (parts ∙ ap (λ (z : Forms). next (listed z) (next (tree body) end)) ends));
    }

-- one more binding is made
pub bound_more : (arity : Name → Option ℕ) (s : Substitution) (bank : Content) (items : List Sexp) (place : ℕ) (b : Sexp) (xs : List Binding) (name : Option (Bor (List ℕ))) (o : Option TermId) (c : Substitution) → place < length items → b ≡ get_or items place b
    → are_bindings (trees items end) ≡ true → name_at name ≡ bound_name (tree b) → IsSameOrDeep (bound_term bank o) (value_term_in arity s (tree b))
    → IsLike (scope_at bank xs ++ bound_in arity s (trees (drop place items) end)) c → IsLike (scope_at bank (xs ++ binding_of name o) ++ bound_in arity s (trees (drop (place + 1) items) end)) c
bound_more arity s bank items place b xs None o c lt is shape named same h =
    absurd (nothing (ap is_some named ∙ name_at_place items place b lt is shape)) where
      nothing : false ≡ true → ⊥
      nothing e = cc
bound_more arity s bank items place b xs (Some name) o c lt is shape named same h =
    let rest = bound_in arity s (trees (drop (place + 1) items) end) in
    let value = value_term_in arity s (tree b) in
    let wanted = subst (λ (z : Substitution). IsLike (scope_at bank xs ++ z) c) (bound_at_place arity s items place b name.now lt is (sym named)) h in
    subst (λ (z : Substitution). IsLike (z ++ rest) c) (sym (scope_append bank xs (binding_of (Some name) o))) (like_more (scope_at bank xs) (name.now, bound_term bank o) (name.now, value) rest c refl same wanted)
