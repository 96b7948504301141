-- What is dropped, literal by literal.
use Rattle.std.proofs.Common.{◌≡◌, ℕ, ◌+◌, ◌<◌, ◌≤◌, Bool, true, false, ◌||◌, ◌&&◌, List, [], ◌∷◌, length, get_or, take, drop, refl, sym, ap, ◌∙◌, arith, inl, inr, subst, if◌then◌else◌}
use Rattle.std.specs.Prelude.{not}
use Rattle.std.proofs.lemmas.List.{at_drop_more}
use Rattle.nq_logic.specs.Terms.{Term, IsAmong}
use Rattle.nq_logic.specs.Histories.{History}
use Rattle.nq_bank.specs.declared.node.TermId.{TermId}
use Rattle.nq_bank.specs.Content.{Content, term_from, terms_from, term_at, terms_at}
use Rattle.nq_proof.specs.Clauses.{Clause, has_term}
use Rattle.nq_kernel.specs.declared.work.Work.{Work}
use Rattle.nq_lines.specs.Lines.{LineHasOnly}
use Rattle.nq_goals.specs.Recursion.{holds_recursive}
use Rattle.nq_goals.specs.Occurrences.{atom_of}
use Rattle.nq_goals.specs.Dropping.{one_holds_recursive, is_lone_call, is_irrelevant, is_empty, can_drop, group_of, droppings_from, others}
use Rattle.nq_moves.specs.Dropped.{HoldChildren}
use Rattle.nq_moves.proofs.AnswerLemmas.{any, any_listed}

one_holds-any : (h : History) (c : Clause) → one_holds_recursive h c ≡ any (λ t. holds_recursive h (atom_of t)) c
one_holds-any h [] = refl
one_holds-any h (t ∷ c) = ap (λ b. holds_recursive h (atom_of t) || b) (one_holds-any h c)

pub one_holds-more : (h : History) (ts : List Term) (ids : List TermId) (i : ℕ) (d : TermId) (before here found : Bool) → i < length ids → before ≡ one_holds_recursive h (terms_from ts (take i ids)) → here ≡ holds_recursive h (atom_of (term_from ts (get_or ids i d))) → found ≡ (before || here) → found ≡ one_holds_recursive h (terms_from ts (take (i + 1) ids))
one_holds-more h ts ids i d before here found below was is told =
    any_listed (λ t. holds_recursive h (atom_of t)) ts ids i d before here found below (was ∙ one_holds-any h (terms_from ts (take i ids))) is told ∙ sym (one_holds-any h (terms_from ts (take (i + 1) ids)))

-- the line of the only child
pub hold_one : (work : Work) (children : List Clause) (child : Clause) (lines : List ℕ) (d : ℕ) → children ≡ child ∷ [] → HoldChildren work children lines → LineHasOnly work (get_or lines 0 d) child
hold_one work children child lines d is h = by_lines lines (subst (λ cs. HoldChildren work cs lines) is h)
  where
    by_lines : (lines : List ℕ) → HoldChildren work (child ∷ []) lines → LineHasOnly work (get_or lines 0 d) child
    by_lines [] h = absurd h
    by_lines (n ∷ lines) h = h.0

pub has_line : (work : Work) (children : List Clause) (child : Clause) (lines : List ℕ) → children ≡ child ∷ [] → HoldChildren work children lines → 1 ≤ length lines
has_line work children child lines is h = by_lines lines (subst (λ cs. HoldChildren work cs lines) is h)
  where
    by_lines : (lines : List ℕ) → HoldChildren work (child ∷ []) lines → 1 ≤ length lines
    by_lines [] h = absurd h
    by_lines (n ∷ lines) h = omega arith

-- what is left is among the goal
pub others_among : (these c : Clause) (t : Term) → IsAmong t (others these c) → IsAmong t c
others_among these [] t m = m
others_among these (u ∷ c) t m = by_test (λ k. others_among these c t k) (has_term u these) m
  where
    by_test : (IsAmong t (others these c) → IsAmong t c) → (b : Bool) → IsAmong t (if b then others these c else u ∷ others these c) → IsAmong t (u ∷ c)
    by_test f true k = inr (f k)
    by_test f false (inl e) = inl e
    by_test f false (inr k) = inr (f k)

-- two literals are no lone call
pub no_lone : (h : History) (bank : Content) (ids : List TermId) → 2 ≤ length ids → false ≡ is_lone_call h (terms_at bank ids)
no_lone h bank [] least = absurd (omega arith)
no_lone h bank (t ∷ []) least = absurd (omega arith)
no_lone h bank (t ∷ (u ∷ ids)) least = refl

pub none_left : (bank : Content) (ids : List TermId) → length ids < 1 → true ≡ is_empty (terms_at bank ids)
none_left bank [] e = refl
none_left bank (t ∷ ids) e = absurd (omega arith)

pub some_left : (bank : Content) (ids : List TermId) → 1 ≤ length ids → false ≡ is_empty (terms_at bank ids)
some_left bank [] e = absurd (omega arith)
some_left bank (t ∷ ids) e = refl

pub can : (h : History) (goal group rest : Clause) → is_irrelevant h group ≡ true → is_empty rest ≡ false → rest ≡ others group goal → can_drop h goal group ≡ true
can h goal group rest first second is = ap (λ b. b && not (is_empty (others group goal))) first ∙ ap (λ c. not (is_empty c)) (sym is) ∙ ap not second

-- the first literal's group, if it can be dropped, and those of the others
first_dropped : (h : History) (goal : Clause) (t : Term) (c : Clause) → can_drop h goal (group_of goal t) ≡ true → droppings_from h goal (t ∷ c) ≡ group_of goal t ∷ droppings_from h goal c
first_dropped h goal t c e = ap (λ b. elim b as (λ b. List Clause) [ true ↦ group_of goal t ∷ droppings_from h goal c | false ↦ droppings_from h goal c ]) e

first_left : (h : History) (goal : Clause) (t : Term) (c : Clause) → can_drop h goal (group_of goal t) ≡ false → droppings_from h goal (t ∷ c) ≡ droppings_from h goal c
first_left h goal t c e = ap (λ b. elim b as (λ b. List Clause) [ true ↦ group_of goal t ∷ droppings_from h goal c | false ↦ droppings_from h goal c ]) e

module _ (h : History) (bank : Content) (goal : List TermId) (i : ℕ) (d : TermId) where
  abbrev pub dropped_from : List TermId → List Clause
  dropped_from ids = droppings_from h (terms_at bank goal) (terms_at bank ids)

  pub none_here : i < length goal → can_drop h (terms_at bank goal) (group_of (terms_at bank goal) (term_at bank (get_or goal i d))) ≡ false → dropped_from (drop i goal) ≡ dropped_from goal → dropped_from (drop (i + 1) goal) ≡ dropped_from goal
  none_here below e was = sym (at_drop_more dropped_from goal i d below ∙ first_left h (terms_at bank goal) (term_at bank (get_or goal i d)) (terms_at bank (drop (i + 1) goal)) e) ∙ was

  pub found_here : i < length goal → can_drop h (terms_at bank goal) (group_of (terms_at bank goal) (term_at bank (get_or goal i d))) ≡ true → dropped_from (drop i goal) ≡ dropped_from goal → IsAmong (group_of (terms_at bank goal) (term_at bank (get_or goal i d))) (dropped_from goal)
  found_here below e was = subst (IsAmong (group_of (terms_at bank goal) (term_at bank (get_or goal i d)))) (sym (at_drop_more dropped_from goal i d below ∙ first_dropped h (terms_at bank goal) (term_at bank (get_or goal i d)) (terms_at bank (drop (i + 1) goal)) e) ∙ was) (inl refl)
