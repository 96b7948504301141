-- The clauses of COND and CASE: what is refused in them, and the nested IFs for which they stand.
use Rattle.std.proofs.Common.{◌≡◌, ℕ, zero, suc, ◌<◌, ◌≤◌, Bool, true, false, List, [], ◌∷◌, length, get_or, drop, refl, ap, sym, ◌∙◌, subst, arith}
use Rattle.std.specs.Prelude.{◌&&◌, Option, None, Some, codes}
use Rattle.nq_logic.specs.Terms.{Name, Term, Substitution}
use Rattle.nq_logic.specs.Words.{if_term}
use Rattle.nq_logic.specs.Sizes.{depth_of, depth_limit}
use Rattle.nq_form.specs.Form.{Form, Forms, symbol, numeral, text, quoted, listed, end, dotted, next}
use Rattle.nq_language.specs.Objects.{nil_term}
use Rattle.nq_language.specs.Refusals.{Refusal, Met, first, unless, is_pair, is_pair_of, are_clauses, clauses_met, keyed_met, met}
use Rattle.nq_language.specs.Scopes.{translated_in, conditional_term_in, keyed_term_in}
use Rattle.nq_sexp.specs.declared.Sexp.{Sexp}
use Rattle.nq_sexp.specs.Tree.{tree, trees}
use Rattle.nq_bank.proofs.DeepLemmas.{deep_argument}
use Rattle.nq_abbrev.specs.Parts.{key_met, test_met, value_met}
use Rattle.nq_abbrev.specs.InScope.{conditional_met, keyed_refused, test_term_in, value_term_in, key_term}
use Rattle.nq_abbrev.proofs.RefusalLemmas.{clause_last, clause_more, keyed_last, keyed_more}

both : (a b : Bool) → (a && b) ≡ true → (a ≡ true) × (b ≡ true)
both true b h = (refl, h)
both false b h = absurd (cc)

pub first_unmet : (m n : Met) → first m n ≡ None → (m ≡ None) × (n ≡ None)
first_unmet None n h = (refl, h)
first_unmet (Some r) n h = absurd (cc)

unless_unmet : (b : Bool) (r : Refusal) → unless b (Some r) ≡ None → b ≡ true
unless_unmet true r h = refl
unless_unmet false r h = absurd (cc)

-- clauses of two forms each
abbrev pub are_pairs : List Sexp → Bool
are_pairs [] = true
are_pairs (x ∷ xs) = is_pair (tree x) && are_pairs xs

headed_pair : (w : Name) (f : Form) (fs : Forms) → is_pair_of w (listed (next f fs)) ≡ true → is_pair (listed (next f fs)) ≡ true
headed_pair w (symbol k) end h = absurd (cc)
headed_pair w (symbol k) (dotted g) h = absurd (cc)
headed_pair w (symbol k) (next g end) h = refl
headed_pair w (symbol k) (next g (dotted i)) h = absurd (cc)
headed_pair w (symbol k) (next g (next i fs)) h = absurd (cc)
headed_pair w (numeral negative n) fs h = absurd (cc)
headed_pair w (text bytes) fs h = absurd (cc)
headed_pair w (quoted f) fs h = absurd (cc)
headed_pair w (listed gs) fs h = absurd (cc)

pair_by : (w : Name) (f : Form) → is_pair_of w f ≡ true → is_pair f ≡ true
pair_by w (symbol x) h = absurd (cc)
pair_by w (numeral negative n) h = absurd (cc)
pair_by w (text bytes) h = absurd (cc)
pair_by w (quoted f) h = absurd (cc)
pair_by w (listed end) h = absurd (cc)
pair_by w (listed (dotted f)) h = absurd (cc)
pair_by w (listed (next f fs)) h = headed_pair w f fs h

pub clauses_pair : (w : Name) (xs : List Sexp) → are_clauses w (trees xs end) ≡ true → are_pairs xs ≡ true
clauses_pair w [] h = refl
clauses_pair w (x ∷ []) h = ap (λ b. b && true) (pair_by w (tree x) h)
clauses_pair w (x ∷ y ∷ xs) h =
    let two = both (is_pair (tree x)) (are_clauses w (trees (y ∷ xs) end)) h in
    ap (λ b. b && are_pairs (y ∷ xs)) two.0 ∙ clauses_pair w (y ∷ xs) two.1

-- the clause at a place
pub pair_at : (from : ℕ) (items : List Sexp) (place : ℕ) (x : Sexp) → from ≤ place → place < length items → x ≡ get_or items place x → are_pairs (drop from items) ≡ true → is_pair (tree x) ≡ true
pair_at zero [] place x lo lt is h = absurd (omega arith)
pair_at zero (y ∷ items) zero x lo lt is h = ap (λ (z : Sexp). is_pair (tree z)) is ∙ (both (is_pair (tree y)) (are_pairs items) h).0
pair_at zero (y ∷ items) (suc place) x lo lt is h = pair_at zero items place x (omega arith) (omega arith) is (both (is_pair (tree y)) (are_pairs items) h).1
pair_at (suc from) [] place x lo lt is h = absurd (omega arith)
pair_at (suc from) (y ∷ items) zero x lo lt is h = absurd (omega arith)
pair_at (suc from) (y ∷ items) (suc place) x lo lt is h = pair_at from items place x (omega arith) (omega arith) is h

-- the first refusal in clauses, of which the last has no test
module _ (test value : Form → Met) where
  abbrev pub branches_met : List Sexp → Met
  branches_met [] = None
  branches_met (x ∷ []) = value (tree x)
  branches_met (x ∷ y ∷ xs) = first (test (tree x)) (first (value (tree x)) (branches_met (y ∷ xs)))

  value_unmet : (items : List Sexp) (place : ℕ) (x : Sexp) → place < length items → x ≡ get_or items place x → branches_met items ≡ None → value (tree x) ≡ None
  value_unmet [] place x lt is h = absurd (omega arith)
  value_unmet (y ∷ []) zero x lt is h = ap (λ (z : Sexp). value (tree z)) is ∙ h
  value_unmet (y ∷ []) (suc place) x lt is h = absurd (omega arith)
  value_unmet (y ∷ z ∷ items) zero x lt is h =
      let rest = (first_unmet (test (tree y)) (first (value (tree y)) (branches_met (z ∷ items))) h).1 in
      ap (λ (z : Sexp). value (tree z)) is ∙ (first_unmet (value (tree y)) (branches_met (z ∷ items)) rest).0
  value_unmet (y ∷ z ∷ items) (suc place) x lt is h =
      let rest = (first_unmet (test (tree y)) (first (value (tree y)) (branches_met (z ∷ items))) h).1 in
      value_unmet (z ∷ items) place x (omega arith) is (first_unmet (value (tree y)) (branches_met (z ∷ items)) rest).1

  test_unmet : (items : List Sexp) (place : ℕ) (x : Sexp) → suc place < length items → x ≡ get_or items place x → branches_met items ≡ None → test (tree x) ≡ None
  test_unmet [] place x lt is h = absurd (omega arith)
  test_unmet (y ∷ []) place x lt is h = absurd (omega arith)
  test_unmet (y ∷ z ∷ items) zero x lt is h =
      ap (λ (z : Sexp). test (tree z)) is ∙ (first_unmet (test (tree y)) (first (value (tree y)) (branches_met (z ∷ items))) h).0
  test_unmet (y ∷ z ∷ items) (suc place) x lt is h =
      let rest = (first_unmet (test (tree y)) (first (value (tree y)) (branches_met (z ∷ items))) h).1 in
      test_unmet (z ∷ items) place x (omega arith) is (first_unmet (value (tree y)) (branches_met (z ∷ items)) rest).1

  pub value_unmet_at : (from : ℕ) (items : List Sexp) (place : ℕ) (x : Sexp) → from ≤ place → place < length items → x ≡ get_or items place x → branches_met (drop from items) ≡ None → value (tree x) ≡ None
  value_unmet_at zero items place x lo lt is h = value_unmet items place x lt is h
  value_unmet_at (suc from) [] place x lo lt is h = absurd (omega arith)
  value_unmet_at (suc from) (y ∷ items) zero x lo lt is h = absurd (omega arith)
  value_unmet_at (suc from) (y ∷ items) (suc place) x lo lt is h = value_unmet_at from items place x (omega arith) (omega arith) is h

  test_unmet_at : (from : ℕ) (items : List Sexp) (place : ℕ) (x : Sexp) → from ≤ place → suc place < length items → x ≡ get_or items place x → branches_met (drop from items) ≡ None → test (tree x) ≡ None
  test_unmet_at zero items place x lo lt is h = test_unmet items place x lt is h
  test_unmet_at (suc from) [] place x lo lt is h = absurd (omega arith)
  test_unmet_at (suc from) (y ∷ items) zero x lo lt is h = absurd (omega arith)
  test_unmet_at (suc from) (y ∷ items) (suc place) x lo lt is h = test_unmet_at from items place x (omega arith) (omega arith) is h

  pub test_unmet_before : (from : ℕ) (items : List Sexp) (place q : ℕ) (x : Sexp) → from ≤ place → suc place ≡ q → q < length items → x ≡ get_or items place x → branches_met (drop from items) ≡ None → test (tree x) ≡ None
  test_unmet_before from items place q x lo step lt is h = test_unmet_at from items place x lo (omega (arith, step, lt)) is h

-- the nested IFs of clauses, of which the last has no test
module _ (test value : Form → Term) where
  abbrev pub branches : List Sexp → Term
  branches [] = nil_term
  branches (x ∷ []) = value (tree x)
  branches (x ∷ y ∷ xs) = if_term (test (tree x)) (value (tree x)) (branches (y ∷ xs))

  pub branches_last : (items : List Sexp) (place : ℕ) (x : Sexp) → place < length items → length items ≤ suc place → x ≡ get_or items place x → branches (drop place items) ≡ value (tree x)
  branches_last [] place x lt le is = absurd (omega arith)
  branches_last (y ∷ []) zero x lt le is = ap (λ (z : Sexp). value (tree z)) (sym is)
  branches_last (y ∷ z ∷ items) zero x lt le is = absurd (omega arith)
  branches_last (y ∷ items) (suc place) x lt le is = branches_last items place x (omega arith) (omega arith) is

  branches_more : (items : List Sexp) (place : ℕ) (x : Sexp) → suc place < length items → x ≡ get_or items place x → branches (drop place items) ≡ if_term (test (tree x)) (value (tree x)) (branches (drop (suc place) items))
  branches_more [] place x lt is = absurd (omega arith)
  branches_more (y ∷ []) zero x lt is = absurd (omega arith)
  branches_more (y ∷ z ∷ items) zero x lt is = ap (λ (u : Sexp). if_term (test (tree u)) (value (tree u)) (branches (z ∷ items))) (sym is)
  branches_more (y ∷ items) (suc place) x lt is = branches_more items place x (omega arith) is

  deep_tail : (place : ℕ) (items : List Sexp) → place < length items → depth_limit < depth_of (branches (drop place items)) → depth_limit < depth_of (branches items)
  deep_tail zero items lt h = h
  deep_tail (suc place) [] lt h = absurd (omega arith)
  deep_tail (suc place) (x ∷ []) lt h = absurd (omega arith)
  deep_tail (suc place) (x ∷ y ∷ items) lt h =
      deep_argument (codes "IF") (test (tree x) ∷ value (tree x) ∷ branches (y ∷ items) ∷ []) 2 nil_term (omega arith) (deep_tail place (y ∷ items) (omega arith) h)

  deep_rest : (from : ℕ) (items : List Sexp) (place : ℕ) → from ≤ place → place < length items → depth_limit < depth_of (branches (drop place items)) → depth_limit < depth_of (branches (drop from items))
  deep_rest zero items place lo lt h = deep_tail place items lt h
  deep_rest (suc from) [] place lo lt h = absurd (omega arith)
  deep_rest (suc from) (x ∷ items) zero lo lt h = absurd (omega arith)
  deep_rest (suc from) (x ∷ items) (suc place) lo lt h = deep_rest from items place (omega arith) (omega arith) h

  -- the nest from a place on, by the nest from the next place on
  pub branches_at : (items : List Sexp) (place q : ℕ) (x : Sexp) → suc place ≡ q → q < length items → x ≡ get_or items place x → branches (drop place items) ≡ if_term (test (tree x)) (value (tree x)) (branches (drop q items))
  branches_at items place q x step lt is =
      branches_more items place x (omega (arith, step, lt)) is ∙ ap (λ k. if_term (test (tree x)) (value (tree x)) (branches (drop k items))) step

  -- the whole nest, where a part of it is too deep
  module _ (from : ℕ) (items : List Sexp) (whole : Term) (e : branches (drop from items) ≡ whole) where
    pub whole_last : (place : ℕ) (x : Sexp) → from ≤ place → place < length items → length items ≤ suc place → x ≡ get_or items place x → depth_limit < depth_of (value (tree x)) → depth_limit < depth_of whole
    whole_last place x lo lt le is h =
        subst (λ (t : Term). depth_limit < depth_of t) e
        (deep_rest from items place lo lt (subst (λ (t : Term). depth_limit < depth_of t) (sym (branches_last items place x lt le is)) h))

    pub whole_nest : (place q : ℕ) (x : Sexp) → from ≤ place → suc place ≡ q → q < length items → x ≡ get_or items place x → depth_limit < depth_of (if_term (test (tree x)) (value (tree x)) (branches (drop q items))) → depth_limit < depth_of whole
    whole_nest place q x lo step lt is h =
        subst (λ (t : Term). depth_limit < depth_of t) e
        (deep_rest from items place lo (omega (arith, step, lt)) (subst (λ (t : Term). depth_limit < depth_of t) (sym (branches_at items place q x step lt is)) h))

    pub whole_value : (place q : ℕ) (x : Sexp) → from ≤ place → suc place ≡ q → q < length items → x ≡ get_or items place x → depth_limit < depth_of (value (tree x)) → depth_limit < depth_of whole
    whole_value place q x lo step lt is h =
        whole_nest place q x lo step lt is (deep_argument (codes "IF") (test (tree x) ∷ value (tree x) ∷ branches (drop q items) ∷ []) 1 nil_term (omega arith) h)

    pub whole_test : (place q : ℕ) (x : Sexp) → from ≤ place → suc place ≡ q → q < length items → x ≡ get_or items place x → depth_limit < depth_of (test (tree x)) → depth_limit < depth_of whole
    whole_test place q x lo step lt is h =
        whole_nest place q x lo step lt is (deep_argument (codes "IF") (test (tree x) ∷ value (tree x) ∷ branches (drop q items) ∷ []) 0 nil_term (omega arith) h)

module _ (arity : Name → Option ℕ) where
  clauses_are : (xs : List Sexp) → are_pairs xs ≡ true → clauses_met arity (trees xs end) ≡ branches_met (test_met arity) (value_met arity) xs
  unfolding met
  clauses_are [] h = refl
  clauses_are (x ∷ []) h = clause_last arity (tree x) (both (is_pair (tree x)) true h).0
  clauses_are (x ∷ y ∷ xs) h =
      let two = both (is_pair (tree x)) (are_pairs (y ∷ xs)) h in
      clause_more arity (tree x) (tree y) (trees xs end) two.0 ∙ ap (λ (z : Met). first (test_met arity (tree x)) (first (value_met arity (tree x)) z)) (clauses_are (y ∷ xs) two.1)

  keyed_are : (xs : List Sexp) → are_pairs xs ≡ true → keyed_met arity (trees xs end) ≡ branches_met key_met (value_met arity) xs
  unfolding met
  keyed_are [] h = refl
  keyed_are (x ∷ []) h = keyed_last arity (tree x) (both (is_pair (tree x)) true h).0
  keyed_are (x ∷ y ∷ xs) h =
      let two = both (is_pair (tree x)) (are_pairs (y ∷ xs)) h in
      keyed_more arity (tree x) (tree y) (trees xs end) two.0 ∙ ap (λ (z : Met). first (key_met (tree x)) (first (value_met arity (tree x)) z)) (keyed_are (y ∷ xs) two.1)

  -- COND that isn't refused
  pub conditional_pairs : (xs : List Sexp) → conditional_met arity (trees xs end) ≡ None → are_pairs xs ≡ true
  conditional_pairs xs h = clauses_pair (codes "T") xs (unless_unmet _ _ (first_unmet _ (clauses_met arity (trees xs end)) h).0)

  pub conditional_unmet_in : (xs : List Sexp) → conditional_met arity (trees xs end) ≡ None → branches_met (test_met arity) (value_met arity) xs ≡ None
  conditional_unmet_in xs h = sym (clauses_are xs (conditional_pairs xs h)) ∙ (first_unmet _ (clauses_met arity (trees xs end)) h).1

  -- clauses of CASE that aren't refused
  pub keyed_pairs : (xs : List Sexp) → keyed_refused arity (trees xs end) ≡ None → are_pairs xs ≡ true
  keyed_pairs xs h = clauses_pair (codes "OTHERWISE") xs (unless_unmet _ _ (first_unmet _ (keyed_met arity (trees xs end)) h).0)

  pub keyed_unmet_in : (xs : List Sexp) → keyed_refused arity (trees xs end) ≡ None → branches_met key_met (value_met arity) xs ≡ None
  keyed_unmet_in xs h = sym (keyed_are xs (keyed_pairs xs h)) ∙ (first_unmet _ (keyed_met arity (trees xs end)) h).1

module _ (arity : Name → Option ℕ) (s : Substitution) where
  term_last : (f : Form) → is_pair f ≡ true → conditional_term_in arity s (next f end) ≡ value_term_in arity s f
  unfolding translated_in
  term_last (symbol x) h = absurd (cc)
  term_last (numeral negative n) h = absurd (cc)
  term_last (text bytes) h = absurd (cc)
  term_last (quoted f) h = absurd (cc)
  term_last (listed end) h = absurd (cc)
  term_last (listed (dotted f)) h = absurd (cc)
  term_last (listed (next f end)) h = absurd (cc)
  term_last (listed (next f (dotted g))) h = absurd (cc)
  term_last (listed (next f (next g end))) h = refl
  term_last (listed (next f (next g (dotted i)))) h = absurd (cc)
  term_last (listed (next f (next g (next i gs)))) h = absurd (cc)

  term_more : (f g : Form) (fs : Forms) → is_pair f ≡ true → conditional_term_in arity s (next f (next g fs)) ≡ if_term (test_term_in arity s f) (value_term_in arity s f) (conditional_term_in arity s (next g fs))
  unfolding translated_in
  term_more (symbol x) j fs h = absurd (cc)
  term_more (numeral negative n) j fs h = absurd (cc)
  term_more (text bytes) j fs h = absurd (cc)
  term_more (quoted f) j fs h = absurd (cc)
  term_more (listed end) j fs h = absurd (cc)
  term_more (listed (dotted f)) j fs h = absurd (cc)
  term_more (listed (next f end)) j fs h = absurd (cc)
  term_more (listed (next f (dotted g))) j fs h = absurd (cc)
  term_more (listed (next f (next g end))) j fs h = refl
  term_more (listed (next f (next g (dotted i)))) j fs h = absurd (cc)
  term_more (listed (next f (next g (next i gs)))) j fs h = absurd (cc)

  pub conditional_branches : (xs : List Sexp) → are_pairs xs ≡ true → branches (test_term_in arity s) (value_term_in arity s) xs ≡ conditional_term_in arity s (trees xs end)
  unfolding translated_in
  conditional_branches [] h = refl
  conditional_branches (x ∷ []) h = sym (term_last (tree x) (both (is_pair (tree x)) true h).0)
  conditional_branches (x ∷ y ∷ xs) h =
      let two = both (is_pair (tree x)) (are_pairs (y ∷ xs)) h in
      ap (λ (z : Term). if_term (test_term_in arity s (tree x)) (value_term_in arity s (tree x)) z) (conditional_branches (y ∷ xs) two.1) ∙ sym (term_more (tree x) (tree y) (trees xs end) two.0)

  choice_last : (a : Term) (f : Form) → is_pair f ≡ true → keyed_term_in arity s a (next f end) ≡ value_term_in arity s f
  unfolding translated_in
  choice_last a (symbol x) h = absurd (cc)
  choice_last a (numeral negative n) h = absurd (cc)
  choice_last a (text bytes) h = absurd (cc)
  choice_last a (quoted f) h = absurd (cc)
  choice_last a (listed end) h = absurd (cc)
  choice_last a (listed (dotted f)) h = absurd (cc)
  choice_last a (listed (next f end)) h = absurd (cc)
  choice_last a (listed (next f (dotted g))) h = absurd (cc)
  choice_last a (listed (next f (next g end))) h = refl
  choice_last a (listed (next f (next g (dotted i)))) h = absurd (cc)
  choice_last a (listed (next f (next g (next i gs)))) h = absurd (cc)

  choice_more : (a : Term) (f g : Form) (fs : Forms) → is_pair f ≡ true → keyed_term_in arity s a (next f (next g fs)) ≡ if_term (key_term a f) (value_term_in arity s f) (keyed_term_in arity s a (next g fs))
  unfolding translated_in
  choice_more a (symbol x) j fs h = absurd (cc)
  choice_more a (numeral negative n) j fs h = absurd (cc)
  choice_more a (text bytes) j fs h = absurd (cc)
  choice_more a (quoted f) j fs h = absurd (cc)
  choice_more a (listed end) j fs h = absurd (cc)
  choice_more a (listed (dotted f)) j fs h = absurd (cc)
  choice_more a (listed (next f end)) j fs h = absurd (cc)
  choice_more a (listed (next f (dotted g))) j fs h = absurd (cc)
  choice_more a (listed (next f (next g end))) j fs h = refl
  choice_more a (listed (next f (next g (dotted i)))) j fs h = absurd (cc)
  choice_more a (listed (next f (next g (next i gs)))) j fs h = absurd (cc)

  pub keyed_branches : (a : Term) (xs : List Sexp) → are_pairs xs ≡ true → branches (key_term a) (value_term_in arity s) xs ≡ keyed_term_in arity s a (trees xs end)
  unfolding translated_in
  keyed_branches a [] h = refl
  keyed_branches a (x ∷ []) h = sym (choice_last a (tree x) (both (is_pair (tree x)) true h).0)
  keyed_branches a (x ∷ y ∷ xs) h =
      let two = both (is_pair (tree x)) (are_pairs (y ∷ xs)) h in
      ap (λ (z : Term). if_term (key_term a (tree x)) (value_term_in arity s (tree x)) z) (keyed_branches a (y ∷ xs) two.1) ∙ sym (choice_more a (tree x) (tree y) (trees xs end) two.0)
