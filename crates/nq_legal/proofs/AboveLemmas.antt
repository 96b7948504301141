-- The inductions above a goal.
use Rattle.std.proofs.Common.{◌≡◌, ◌≤◌, ◌+◌, ℕ, Bool, true, false, List, [], ◌∷◌, ◌++◌, ◌-◌, length, length-append, take, drop, get_or, ap₂, refl, sym, ap, ◌∙◌, subst, inl, inr, arith}
use Rattle.std.specs.Prelude.{◌⊎◌, ◌↔◌, IsTrue, if◌then◌else◌}
use Rattle.std.proofs.lemmas.List.{append_assoc, take_all}
use Rattle.nq_logic.specs.Terms.{IsAmong}
use Rattle.nq_bank.specs.declared.node.TermId.{TermId}
use Rattle.nq_bank.specs.Content.{Content, terms_at}
use Rattle.nq_proof.specs.Clauses.{Clause}
use Rattle.nq_clause.specs.Subsumption as clauses
use Rattle.nq_goals.specs.Paths.{Above, Passed, inducted_goals, inductions, is_induction}
use Rattle.nq_goals.specs.Moves.{IsSubsumed, Subsumes}
use Rattle.nq_waterfall.specs.Kinds.{goal_kind}
use Rattle.nq_waterfall.specs.declared.trail.Ancestor.{Ancestor}
use Rattle.nq_waterfall.specs.Trails.{passed_at, above_onto, above_at}
use Rattle.nq_legal.specs.Above.{SubsumesBy}

split_first : (p : Passed) (above : Above) → inducted_goals (p ∷ above) ≡ inducted_goals (p ∷ []) ++ inducted_goals above
split_first p above = by_kind (is_induction p.kind)
  where
    by_kind : (b : Bool) → (if b then p.goal ∷ inducted_goals above else inducted_goals above) ≡ (if b then p.goal ∷ [] else []) ++ inducted_goals above
    by_kind true = refl
    by_kind false = refl

-- what stands above the first of the goals comes last
split_onto : (bank : Content) (above : Above) (path : List Ancestor) → inducted_goals (above_onto bank above path) ≡ inducted_goals (above_onto bank [] path) ++ inducted_goals above
split_onto bank above [] = refl
split_onto bank above (a ∷ path) =
    split_onto bank (passed_at bank a ∷ above) path ∙
    ap (λ (xs : List Clause). inducted_goals (above_onto bank [] path) ++ xs) (split_first (passed_at bank a) above) ∙
    sym (append_assoc (inducted_goals (above_onto bank [] path)) (inducted_goals (passed_at bank a ∷ [])) (inducted_goals above)) ∙
    ap (λ (xs : List Clause). xs ++ inducted_goals above) (sym (split_onto bank (passed_at bank a ∷ []) path))

own_one : (b : Bool) (g : Clause) → b ≡ true → length (if b then g ∷ [] else []) ≡ 1
own_one true g e = refl
own_one false g e = absurd cc

own_none : (b : Bool) (g : Clause) → b ≡ false → length (if b then g ∷ [] else []) ≡ 0
own_none true g e = absurd cc
own_none false g e = refl

own_in : (b : Bool) (g : Clause) → b ≡ true → IsAmong g (if b then g ∷ [] else [])
own_in true g e = inl refl
own_in false g e = absurd cc

own_is : (b : Bool) (g x : Clause) → IsAmong x (if b then g ∷ [] else []) → (b ≡ true) × (x ≡ g)
own_is true g x (inl e) = (refl, e)
own_is true g x (inr k) = absurd k
own_is false g x h = absurd h

among_left : (x : Clause) (xs ys : List Clause) → IsAmong x xs → IsAmong x (xs ++ ys)
among_left x [] ys h = absurd h
among_left x (y ∷ xs) ys (inl e) = inl e
among_left x (y ∷ xs) ys (inr k) = inr (among_left x xs ys k)

among_right : (x : Clause) (xs ys : List Clause) → IsAmong x ys → IsAmong x (xs ++ ys)
among_right x [] ys h = h
among_right x (y ∷ xs) ys h = inr (among_right x xs ys h)

or_later : (A B C : Type 0) → (B ⊎ C) → (A ⊎ B) ⊎ C
or_later A B C (inl b) = inl (inr b)
or_later A B C (inr c) = inr c

among_either : (x : Clause) (xs ys : List Clause) → IsAmong x (xs ++ ys) → IsAmong x xs ⊎ IsAmong x ys
among_either x [] ys h = inr h
among_either x (y ∷ xs) ys (inl e) = inl (inl e)
among_either x (y ∷ xs) ys (inr k) = or_later (x ≡ y) (IsAmong x xs) (IsAmong x ys) (among_either x xs ys k)

module _ (bank : Content) (a : Ancestor) (path : List Ancestor) where
  whole : inducted_goals (above_at bank (a ∷ path)) ≡ inducted_goals (above_at bank path) ++ inducted_goals (passed_at bank a ∷ [])
  whole = split_onto bank (passed_at bank a ∷ []) path

  total : inductions (above_at bank (a ∷ path)) ≡ inductions (above_at bank path) + length (inducted_goals (passed_at bank a ∷ []))
  total = ap length whole ∙ length-append (inducted_goals (above_at bank path)) (inducted_goals (passed_at bank a ∷ []))

  pub one_more : is_induction (goal_kind a.kind) ≡ true → inductions (above_at bank (a ∷ path)) ≡ inductions (above_at bank path) + 1
  one_more ind = total ∙ ap (λ (n : ℕ). inductions (above_at bank path) + n) (own_one (is_induction (goal_kind a.kind)) (terms_at bank a.goal.items) ind)

  pub no_more : is_induction (goal_kind a.kind) ≡ false → inductions (above_at bank (a ∷ path)) ≡ inductions (above_at bank path)
  no_more not =
      let none : length (inducted_goals (passed_at bank a ∷ [])) ≡ 0 = own_none (is_induction (goal_kind a.kind)) (terms_at bank a.goal.items) not in
      let all = total in
      omega (arith, all, none)

  module _ (goal : List TermId) where
    pub below_first : SubsumesBy bank a goal → IsSubsumed (above_at bank (a ∷ path)) (terms_at bank goal)
    below_first s =
        record {
          earlier = terms_at bank a.goal.items;
          inducted =
              subst (λ (gs : List Clause). IsAmong (terms_at bank a.goal.items) gs) (sym whole)
              (among_right (terms_at bank a.goal.items) (inducted_goals (above_at bank path)) (inducted_goals (passed_at bank a ∷ [])) (own_in (is_induction (goal_kind a.kind)) (terms_at bank a.goal.items) s.inducted));
          subsumes = s.subsumes;
        }

    pub below_rest : IsSubsumed (above_at bank path) (terms_at bank goal) → IsSubsumed (above_at bank (a ∷ path)) (terms_at bank goal)
    below_rest s =
        record {
          earlier = s.earlier;
          inducted =
              subst (λ (gs : List Clause). IsAmong s.earlier gs) (sym whole)
              (among_left s.earlier (inducted_goals (above_at bank path)) (inducted_goals (passed_at bank a ∷ [])) s.inducted);
          subsumes = s.subsumes;
        }

    from_either : (earlier : Clause) → Subsumes earlier (terms_at bank goal) → IsAmong earlier (inducted_goals (above_at bank path)) ⊎ IsAmong earlier (inducted_goals (passed_at bank a ∷ [])) →
        SubsumesBy bank a goal ⊎ IsSubsumed (above_at bank path) (terms_at bank goal)
    from_either earlier s (inl k) = inr (record { earlier = earlier; inducted = k; subsumes = s })
    from_either earlier s (inr k) =
        let own = own_is (is_induction (goal_kind a.kind)) (terms_at bank a.goal.items) earlier k in
        inl (record { inducted = own.0; subsumes = subst (λ (e : Clause). Subsumes e (terms_at bank goal)) own.1 s })

    pub below_either : IsSubsumed (above_at bank (a ∷ path)) (terms_at bank goal) → SubsumesBy bank a goal ⊎ IsSubsumed (above_at bank path) (terms_at bank goal)
    below_either s =
        from_either s.earlier s.subsumes
        (among_either s.earlier (inducted_goals (above_at bank path)) (inducted_goals (passed_at bank a ∷ [])) (subst (λ (gs : List Clause). IsAmong s.earlier gs) whole s.inducted))

    without : (SubsumesBy bank a goal → ⊥) → SubsumesBy bank a goal ⊎ IsSubsumed (above_at bank path) (terms_at bank goal) → IsSubsumed (above_at bank path) (terms_at bank goal)
    without never (inl s) = absurd (never s)
    without never (inr s) = s

    -- the first goal above does not subsume the goal
    pub told_by_rest : (b answer : Bool) → b ≡ false → (IsTrue b ↔ SubsumesBy bank a goal) → (IsTrue answer ↔ IsSubsumed (above_at bank path) (terms_at bank goal)) → IsTrue answer ↔ IsSubsumed (above_at bank (a ∷ path)) (terms_at bank goal)
    told_by_rest b answer e here rest = (
      (λ t. below_rest (rest.0 t)),
      (λ s. rest.1 (without (λ k. absurd (apart b e (here.1 k))) (below_either s))),
    )
      where
        apart : (b : Bool) → b ≡ false → IsTrue b → ⊥
        apart true e t = absurd cc
        apart false e t = absurd cc

    pub told_by_first : (b : Bool) → b ≡ true → (IsTrue b ↔ SubsumesBy bank a goal) → IsTrue true ↔ IsSubsumed (above_at bank (a ∷ path)) (terms_at bank goal)
    told_by_first b e here = ((λ t. below_first (here.0 e)), (λ s. refl))

-- nothing stands above a first goal
pub none_above : (bank : Content) (goal : List TermId) → IsTrue false ↔ IsSubsumed (above_at bank []) (terms_at bank goal)
none_above bank goal = ((λ t. absurd cc), (λ s. absurd s.inducted))

-- the same of two clauses
pub by_clauses : (bank : Content) (a : Ancestor) (goal : List TermId) (answer : Bool) → is_induction (goal_kind a.kind) ≡ true → (IsTrue answer ↔ clauses.Subsumes (terms_at bank a.goal.items) (terms_at bank goal)) → IsTrue answer ↔ SubsumesBy bank a goal
by_clauses bank a goal answer ind told = (
  (λ t. let s = told.0 t in record { inducted = ind; subsumes = record { substitution = s.substitution; takes = s.takes } }),
  (λ s. told.1 (record { substitution = s.subsumes.substitution; takes = s.subsumes.takes })),
)

pub by_none : (bank : Content) (a : Ancestor) (goal : List TermId) → is_induction (goal_kind a.kind) ≡ false → IsTrue false ↔ SubsumesBy bank a goal
by_none bank a goal not = ((λ t. absurd cc), (λ s. absurd (apart (is_induction (goal_kind a.kind)) not s.inducted)))
  where
    apart : (b : Bool) → b ≡ false → b ≡ true → ⊥
    apart true e t = absurd cc
    apart false e t = absurd cc

-- the first of the goals above, and the rest
pub split_path : (path : List Ancestor) (a : Ancestor) → 1 ≤ length path → a ≡ get_or path 0 a → path ≡ a ∷ take (length path - 1) (drop 1 path)
split_path [] a l e = absurd (omega (arith, l))
split_path (b ∷ path) a l e = ap₂ (λ (x : Ancestor) (xs : List Ancestor). x ∷ xs) (sym e) (sym (take_all (length (b ∷ path) - 1) path (omega arith)))
