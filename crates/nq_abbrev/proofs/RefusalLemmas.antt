-- The first refusal in a form, by that of its parts.
use Rattle.std.proofs.Common.{◌≡◌, ℕ, suc, Bool, true, false, ◌+◌, ◌<◌, ◌≤◌, arith, List, [], ◌∷◌, length, get_or, take, drop, ◌-◌, refl, ap, sym, subst, ◌∙◌, zero, drop-cons, add-one, Bor}
use Rattle.std.specs.Prelude.{Option, None, Some}
use Rattle.std.proofs.Math.Seq.{take-length}
use Rattle.std.proofs.lemmas.List.{drop_all}
use Rattle.nq_logic.specs.Terms.{Name}
use Rattle.nq_form.specs.Form.{Form, Forms, symbol, numeral, text, quoted, listed, end, dotted, next}
use Rattle.nq_language.specs.Abbreviations.{Word, word_in, word_of, word_by}
use Rattle.nq_language.specs.Refusals.{Met, first, bad, is_dotted, is_pair, own_met, met, clauses_met, keyed_met, binding_met, bound_met, parts_met}
use Rattle.nq_sexp.specs.declared.Sexp.{Sexp}
use Rattle.nq_sexp.specs.Tree.{tree, trees, tail_of}
use Rattle.nq_abbrev.specs.Met.{met_of}
use Rattle.nq_abbrev.specs.Pairs.{symbol_name}
use Rattle.nq_abbrev.specs.Parts.{key_met, test_met, value_met}
use Rattle.nq_abbrev.specs.declared.refusal.Refusal.{Refusal}

pub first_some : (m n : Met) (r : Refusal) → met_of (Some r) ≡ m → met_of (Some r) ≡ first m n
first_some m n r h = ap (λ (z : Met). first z n) h

pub first_none : (m n o : Met) → None ≡ m → o ≡ n → o ≡ first m n
first_none m n o h k = k ∙ ap (λ (z : Met). first z n) h

pub symbol_is : (f : Form) (x : Name) → Some x ≡ symbol_name f → f ≡ symbol x
symbol_is (symbol y) x h = cc
symbol_is (numeral negative n) x h = absurd (cc)
symbol_is (text bytes) x h = absurd (cc)
symbol_is (quoted f) x h = absurd (cc)
symbol_is (listed fs) x h = absurd (cc)

-- the element at a place stands first in what is left there
pub at_place : (items : List Sexp) (place : ℕ) (x : Sexp) → place < length items → x ≡ get_or items place x → drop place items ≡ x ∷ drop (place + 1) items
at_place items place x lt is = drop-cons items place x lt ∙ ap (λ (z : Sexp). z ∷ drop (suc place) items) (sym is) ∙ ap (λ k. x ∷ drop k items) (sym (add-one place))

get_or_any : (items : List Sexp) (place : ℕ) (d e : Sexp) → place < length items → get_or items place d ≡ get_or items place e
get_or_any [] place d e lt = absurd (omega arith)
get_or_any (x ∷ items) zero d e lt = refl
get_or_any (x ∷ items) (suc place) d e lt = get_or_any items place d e (omega arith)

taken : (items : List Sexp) → take (length items - 1) (drop 1 items) ≡ drop 1 items
taken [] = refl
taken (f ∷ items) = let whole : suc (length items) - 1 ≡ length items = omega arith in rw whole (take-length items)

module _ (arity : Name → Option ℕ) where
  headed_dotted : (f : Form) (fs : Forms) → is_dotted fs ≡ true → met arity (listed (next f fs)) ≡ bad "FORM"
  unfolding met
  headed_dotted (symbol x) fs h = rw h refl
  headed_dotted (numeral negative n) fs h = refl
  headed_dotted (text bytes) fs h = refl
  headed_dotted (quoted f) fs h = refl
  headed_dotted (listed gs) fs h = refl

  dotted_trees : (items : List Sexp) (last : Form) → is_dotted (trees items (dotted last)) ≡ true
  dotted_trees [] last = refl
  dotted_trees (f ∷ items) last = dotted_trees items last

  straight_trees : (items : List Sexp) → is_dotted (trees items end) ≡ false
  straight_trees [] = refl
  straight_trees (f ∷ items) = straight_trees items

  pub met_dotted : (items : List Sexp) (last : Form) → met arity (listed (trees items (dotted last))) ≡ bad "FORM"
  unfolding met
  met_dotted [] last = refl
  met_dotted (f ∷ items) last = headed_dotted (tree f) (trees items (dotted last)) (dotted_trees items last)

  met_call : (f : Name) (fs : Forms) → is_dotted fs ≡ false → met arity (listed (next (symbol f) fs)) ≡ first (own_met (word_in arity f) (arity f) f fs) (parts_met arity (word_in arity f) fs)
  unfolding met parts_met
  met_call f fs h = rw h refl

  -- a call whose name is known
  pub met_called : (items : List Sexp) (head : Sexp) (f : Name) → 1 ≤ length items → head ≡ get_or items 0 head → Some f ≡ symbol_name (tree head)
      → met arity (listed (trees items end)) ≡ first (own_met (word_in arity f) (arity f) f (trees (drop 1 items) end)) (parts_met arity (word_in arity f) (trees (drop 1 items) end))
  met_called [] head f lt is named = absurd (omega arith)
  met_called (i ∷ items) head f lt is named =
      ap (λ (z : Form). met arity (listed (next z (trees items end)))) (ap tree (sym is) ∙ symbol_is (tree head) f named) ∙ met_call f (trees items end) (straight_trees items)

  -- by the meaning and the arity that the program found
  pub called : (items : List Sexp) (head : Sexp) (f : Name) (a : Option ℕ) (w : Word) → 1 ≤ length items → head ≡ get_or items 0 head → Some f ≡ symbol_name (tree head) → a ≡ arity f → w ≡ word_by (word_of f) a
      → met arity (listed (trees items end)) ≡ first (own_met w a f (trees (take (length items - 1) (drop 1 items)) end)) (parts_met arity w (trees (drop 1 items) end))
  unfolding word_in
  called items head f a w lt is named known meant =
      let means : w ≡ word_in arity f = meant ∙ ap (λ (z : Option ℕ). word_by (word_of f) z) known in
      met_called items head f lt is named ∙ ap (λ (z : Word). first (own_met z (arity f) f (trees (drop 1 items) end)) (parts_met arity z (trees (drop 1 items) end))) (sym means)
      ∙ ap (λ (z : Option ℕ). first (own_met w z f (trees (drop 1 items) end)) (parts_met arity w (trees (drop 1 items) end))) (sym known)
      ∙ ap (λ (z : List Sexp). first (own_met w a f (trees z end)) (parts_met arity w (trees (drop 1 items) end))) (sym (taken items))

  pub test_none : (f : Form) → is_pair f ≡ false → None ≡ test_met arity f
  test_none (symbol x) h = refl
  test_none (numeral negative n) h = refl
  test_none (text bytes) h = refl
  test_none (quoted f) h = refl
  test_none (listed end) h = refl
  test_none (listed (dotted f)) h = refl
  test_none (listed (next f end)) h = refl
  test_none (listed (next f (dotted g))) h = refl
  test_none (listed (next f (next g end))) h = absurd (cc)
  test_none (listed (next f (next g (dotted i)))) h = refl
  test_none (listed (next f (next g (next i fs)))) h = refl

  pub value_none : (f : Form) → is_pair f ≡ false → None ≡ value_met arity f
  value_none (symbol x) h = refl
  value_none (numeral negative n) h = refl
  value_none (text bytes) h = refl
  value_none (quoted f) h = refl
  value_none (listed end) h = refl
  value_none (listed (dotted f)) h = refl
  value_none (listed (next f end)) h = refl
  value_none (listed (next f (dotted g))) h = refl
  value_none (listed (next f (next g end))) h = absurd (cc)
  value_none (listed (next f (next g (dotted i)))) h = refl
  value_none (listed (next f (next g (next i fs)))) h = refl

  pub bound_pair : (f : Form) (fs : Forms) → is_pair f ≡ true → bound_met arity (next f fs) ≡ first (value_met arity f) (bound_met arity fs)
  unfolding met
  bound_pair (symbol x) fs h = absurd (cc)
  bound_pair (numeral negative n) fs h = absurd (cc)
  bound_pair (text bytes) fs h = absurd (cc)
  bound_pair (quoted f) fs h = absurd (cc)
  bound_pair (listed end) fs h = absurd (cc)
  bound_pair (listed (dotted f)) fs h = absurd (cc)
  bound_pair (listed (next f end)) fs h = absurd (cc)
  bound_pair (listed (next f (dotted g))) fs h = absurd (cc)
  bound_pair (listed (next f (next g end))) fs h = refl
  bound_pair (listed (next f (next g (dotted i)))) fs h = absurd (cc)
  bound_pair (listed (next f (next g (next i gs)))) fs h = absurd (cc)

  pub bound_step : (items : List Sexp) (place : ℕ) (x : Sexp) → place < length items → x ≡ get_or items place x → is_pair (tree x) ≡ true
      → bound_met arity (trees (drop place items) end) ≡ first (value_met arity (tree x)) (bound_met arity (trees (drop (place + 1) items) end))
  bound_step items place x lt is pair =
      ap (λ (z : List Sexp). bound_met arity (trees z end)) (at_place items place x lt is) ∙ bound_pair (tree x) (trees (drop (place + 1) items) end) pair

  pub bound_tail : (items : List Sexp) (tail : Option (Bor Sexp)) → bound_met arity (trees items (tail_of tail)) ≡ bound_met arity (trees items end)
  unfolding met
  bound_tail [] None = refl
  bound_tail [] (Some form) = refl
  bound_tail (f ∷ items) tail = bound_same (tree f) (trees items (tail_of tail)) (trees items end) (bound_tail items tail) where
    bound_same : (f : Form) (fs gs : Forms) → bound_met arity fs ≡ bound_met arity gs → bound_met arity (next f fs) ≡ bound_met arity (next f gs)
    bound_same (symbol x) fs gs h = refl
    bound_same (numeral negative n) fs gs h = refl
    bound_same (text bytes) fs gs h = refl
    bound_same (quoted f) fs gs h = refl
    bound_same (listed end) fs gs h = refl
    bound_same (listed (dotted f)) fs gs h = refl
    bound_same (listed (next f end)) fs gs h = refl
    bound_same (listed (next f (dotted g))) fs gs h = refl
    bound_same (listed (next f (next g end))) fs gs h = ap (λ (z : Met). first (met arity g) z) h
    bound_same (listed (next f (next g (dotted i)))) fs gs h = refl
    bound_same (listed (next f (next g (next i hs)))) fs gs h = refl

  pub clause_last : (f : Form) → is_pair f ≡ true → clauses_met arity (next f end) ≡ value_met arity f
  unfolding met
  clause_last (symbol x) h = absurd (cc)
  clause_last (numeral negative n) h = absurd (cc)
  clause_last (text bytes) h = absurd (cc)
  clause_last (quoted f) h = absurd (cc)
  clause_last (listed end) h = absurd (cc)
  clause_last (listed (dotted f)) h = absurd (cc)
  clause_last (listed (next f end)) h = absurd (cc)
  clause_last (listed (next f (dotted g))) h = absurd (cc)
  clause_last (listed (next f (next g end))) h = refl
  clause_last (listed (next f (next g (dotted i)))) h = absurd (cc)
  clause_last (listed (next f (next g (next i gs)))) h = absurd (cc)

  pub clause_more : (f g : Form) (fs : Forms) → is_pair f ≡ true → clauses_met arity (next f (next g fs)) ≡ first (test_met arity f) (first (value_met arity f) (clauses_met arity (next g fs)))
  unfolding met
  clause_more (symbol x) j fs h = absurd (cc)
  clause_more (numeral negative n) j fs h = absurd (cc)
  clause_more (text bytes) j fs h = absurd (cc)
  clause_more (quoted f) j fs h = absurd (cc)
  clause_more (listed end) j fs h = absurd (cc)
  clause_more (listed (dotted f)) j fs h = absurd (cc)
  clause_more (listed (next f end)) j fs h = absurd (cc)
  clause_more (listed (next f (dotted g))) j fs h = absurd (cc)
  clause_more (listed (next f (next g end))) j fs h = refl
  clause_more (listed (next f (next g (dotted i)))) j fs h = absurd (cc)
  clause_more (listed (next f (next g (next i gs)))) j fs h = absurd (cc)

  pub keyed_last : (f : Form) → is_pair f ≡ true → keyed_met arity (next f end) ≡ value_met arity f
  unfolding met
  keyed_last (symbol x) h = absurd (cc)
  keyed_last (numeral negative n) h = absurd (cc)
  keyed_last (text bytes) h = absurd (cc)
  keyed_last (quoted f) h = absurd (cc)
  keyed_last (listed end) h = absurd (cc)
  keyed_last (listed (dotted f)) h = absurd (cc)
  keyed_last (listed (next f end)) h = absurd (cc)
  keyed_last (listed (next f (dotted g))) h = absurd (cc)
  keyed_last (listed (next f (next g end))) h = refl
  keyed_last (listed (next f (next g (dotted i)))) h = absurd (cc)
  keyed_last (listed (next f (next g (next i gs)))) h = absurd (cc)

  pub keyed_more : (f g : Form) (fs : Forms) → is_pair f ≡ true → keyed_met arity (next f (next g fs)) ≡ first (key_met f) (first (value_met arity f) (keyed_met arity (next g fs)))
  unfolding met
  keyed_more (symbol x) j fs h = absurd (cc)
  keyed_more (numeral negative n) j fs h = absurd (cc)
  keyed_more (text bytes) j fs h = absurd (cc)
  keyed_more (quoted f) j fs h = absurd (cc)
  keyed_more (listed end) j fs h = absurd (cc)
  keyed_more (listed (dotted f)) j fs h = absurd (cc)
  keyed_more (listed (next f end)) j fs h = absurd (cc)
  keyed_more (listed (next f (dotted g))) j fs h = absurd (cc)
  keyed_more (listed (next f (next g end))) j fs h = refl
  keyed_more (listed (next f (next g (dotted i)))) j fs h = absurd (cc)
  keyed_more (listed (next f (next g (next i gs)))) j fs h = absurd (cc)

  clauses_end : None ≡ clauses_met arity end
  unfolding met
  clauses_end = refl

  keyed_end : None ≡ keyed_met arity end
  unfolding met
  keyed_end = refl

  first_alone : (m n : Met) → None ≡ n → m ≡ first m n
  first_alone None n h = h
  first_alone (Some r) n h = refl

  pub clauses_last : (items : List Sexp) (place : ℕ) (x : Sexp) → place < length items → length items ≤ place + 1 → x ≡ get_or items place x → is_pair (tree x) ≡ true
      → clauses_met arity (trees (drop place items) end) ≡ first (value_met arity (tree x)) (clauses_met arity (trees (drop (place + 1) items) end))
  clauses_last items place x lt le is pair =
      let nothing : drop (place + 1) items ≡ [] = drop_all (place + 1) items le in
      ap (λ (z : List Sexp). clauses_met arity (trees z end)) (at_place items place x lt is) ∙ ap (λ (z : List Sexp). clauses_met arity (next (tree x) (trees z end))) nothing ∙ clause_last (tree x) pair
      ∙ first_alone (value_met arity (tree x)) (clauses_met arity (trees (drop (place + 1) items) end)) (clauses_end ∙ ap (λ (z : List Sexp). clauses_met arity (trees z end)) (sym nothing))

  pub clauses_more : (items : List Sexp) (place : ℕ) (x : Sexp) → place + 1 < length items → x ≡ get_or items place x → is_pair (tree x) ≡ true
      → clauses_met arity (trees (drop place items) end) ≡ first (test_met arity (tree x)) (first (value_met arity (tree x)) (clauses_met arity (trees (drop (place + 1) items) end)))
  clauses_more items place x lt is pair =
      let y = get_or items (place + 1) x in
      let after = at_place items (place + 1) y lt (get_or_any items (place + 1) x y lt) in
      let P = λ (z : List Sexp). clauses_met arity (next (tree x) (trees z end)) ≡ first (test_met arity (tree x)) (first (value_met arity (tree x)) (clauses_met arity (trees z end))) in
      let here : place < length items = omega arith in
      ap (λ (z : List Sexp). clauses_met arity (trees z end)) (at_place items place x here is) ∙ subst P (sym after) (clause_more (tree x) (tree y) (trees (drop (place + 1 + 1) items) end) pair)

  pub keyed_at_last : (items : List Sexp) (place : ℕ) (x : Sexp) → place < length items → length items ≤ place + 1 → x ≡ get_or items place x → is_pair (tree x) ≡ true
      → keyed_met arity (trees (drop place items) end) ≡ first (value_met arity (tree x)) (keyed_met arity (trees (drop (place + 1) items) end))
  keyed_at_last items place x lt le is pair =
      let nothing : drop (place + 1) items ≡ [] = drop_all (place + 1) items le in
      ap (λ (z : List Sexp). keyed_met arity (trees z end)) (at_place items place x lt is) ∙ ap (λ (z : List Sexp). keyed_met arity (next (tree x) (trees z end))) nothing ∙ keyed_last (tree x) pair
      ∙ first_alone (value_met arity (tree x)) (keyed_met arity (trees (drop (place + 1) items) end)) (keyed_end ∙ ap (λ (z : List Sexp). keyed_met arity (trees z end)) (sym nothing))

  pub keyed_at : (items : List Sexp) (place : ℕ) (x : Sexp) → place + 1 < length items → x ≡ get_or items place x → is_pair (tree x) ≡ true
      → keyed_met arity (trees (drop place items) end) ≡ first (key_met (tree x)) (first (value_met arity (tree x)) (keyed_met arity (trees (drop (place + 1) items) end)))
  keyed_at items place x lt is pair =
      let y = get_or items (place + 1) x in
      let after = at_place items (place + 1) y lt (get_or_any items (place + 1) x y lt) in
      let P = λ (z : List Sexp). keyed_met arity (next (tree x) (trees z end)) ≡ first (key_met (tree x)) (first (value_met arity (tree x)) (keyed_met arity (trees z end))) in
      let here : place < length items = omega arith in
      ap (λ (z : List Sexp). keyed_met arity (trees z end)) (at_place items place x here is) ∙ subst P (sym after) (keyed_more (tree x) (tree y) (trees (drop (place + 1 + 1) items) end) pair)

  pub let_parts : (items : List Sexp) (b body : Sexp) → 3 ≤ length items → length items < 4 → b ≡ get_or items 1 b → body ≡ get_or items 2 body
      → trees (drop 1 items) end ≡ next (tree b) (next (tree body) end)
  let_parts [] b body lo hi at_b at_body = absurd (omega arith)
  let_parts (f ∷ []) b body lo hi at_b at_body = absurd (omega arith)
  let_parts (f ∷ g ∷ []) b body lo hi at_b at_body = absurd (omega arith)
  let_parts (f ∷ g ∷ i ∷ []) b body lo hi at_b at_body = ap (λ (z : Sexp). next (tree z) (next (tree i) end)) (sym at_b) ∙ ap (λ (z : Sexp). next (tree b) (next (tree z) end)) (sym at_body)
  let_parts (f ∷ g ∷ i ∷ j ∷ items) b body lo hi at_b at_body = absurd (omega arith)

  pub binding_listed : (items : List Sexp) (b body : Sexp) (fs : Forms) → 3 ≤ length items → length items < 4 → b ≡ get_or items 1 b → body ≡ get_or items 2 body → tree b ≡ listed fs
      → binding_met arity (trees (drop 1 items) end) ≡ first (bound_met arity fs) (met arity (tree body))
  unfolding met
  binding_listed items b body fs lo hi at_b at_body is = ap (binding_met arity) (let_parts items b body lo hi at_b at_body ∙ ap (λ (z : Form). next z (next (tree body) end)) is)

  abbrev is_listed : Form → Bool
  is_listed (listed fs) = true
  is_listed _ = false

  unlisted : (f g : Form) → is_listed f ≡ false → None ≡ binding_met arity (next f (next g end))
  unfolding met
  unlisted (symbol x) g h = refl
  unlisted (numeral negative n) g h = refl
  unlisted (text bytes) g h = refl
  unlisted (quoted f) g h = refl
  unlisted (listed fs) g h = absurd (cc)

  pub binding_unlisted : (items : List Sexp) (b body : Sexp) (f : Form) → 3 ≤ length items → length items < 4 → b ≡ get_or items 1 b → body ≡ get_or items 2 body → tree b ≡ f → is_listed f ≡ false
      → None ≡ binding_met arity (trees (drop 1 items) end)
  binding_unlisted items b body f lo hi at_b at_body is h =
      unlisted f (tree body) h ∙ sym (ap (binding_met arity) (let_parts items b body lo hi at_b at_body ∙ ap (λ (z : Form). next z (next (tree body) end)) is))

  alone : (f : Form) → None ≡ binding_met arity (next f end)
  unfolding met
  alone (symbol x) = refl
  alone (numeral negative n) = refl
  alone (text bytes) = refl
  alone (quoted f) = refl
  alone (listed fs) = refl

  many : (f g i : Form) (fs : Forms) → None ≡ binding_met arity (next f (next g (next i fs)))
  unfolding met
  many (symbol x) g i fs = refl
  many (numeral negative n) g i fs = refl
  many (text bytes) g i fs = refl
  many (quoted f) g i fs = refl
  many (listed gs) g i fs = refl

  pub binding_two : (items : List Sexp) → 2 ≤ length items → length items < 3 → None ≡ binding_met arity (trees (drop 1 items) end)
  binding_two [] lo hi = absurd (omega arith)
  binding_two (f ∷ []) lo hi = absurd (omega arith)
  binding_two (f ∷ g ∷ []) lo hi = alone (tree g)
  binding_two (f ∷ g ∷ i ∷ items) lo hi = absurd (omega arith)

  pub binding_many : (items : List Sexp) → 4 ≤ length items → None ≡ binding_met arity (trees (drop 1 items) end)
  binding_many [] lo = absurd (omega arith)
  binding_many (f ∷ []) lo = absurd (omega arith)
  binding_many (f ∷ g ∷ []) lo = absurd (omega arith)
  binding_many (f ∷ g ∷ i ∷ []) lo = absurd (omega arith)
  binding_many (f ∷ g ∷ i ∷ j ∷ items) lo = many (tree g) (tree i) (tree j) (trees items end)
