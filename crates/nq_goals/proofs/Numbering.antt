-- The steps of an unsolved goal in preorder are a tree of a failure.
use Rattle.std.proofs.Common.{◌≡◌, ℕ, suc, ◌+◌, ◌<◌, ◌≤◌, List, [], ◌∷◌, ◌++◌, ◌⊎◌, length, refl, sym, ap, ap₂, subst, inl, inr, arith, ◌∙◌, append_assoc, append-nil, length-append}
use Rattle.std.specs.Prelude.{Some, slice_get}
use Rattle.std.proofs.lemmas.Bool.{cases_order}
use Rattle.nq_logic.specs.Terms.{Each}
use Rattle.nq_logic.specs.Histories.{History}
use Rattle.nq_logic.proofs.Lists.{each_append, each_mono}
use Rattle.nq_proof.specs.Clauses.{Clause}
use Rattle.nq_events.specs.Events.{Hints}
use Rattle.nq_goals.specs.declared.kinds.MoveKind.{MoveKind}
use Rattle.nq_goals.specs.declared.kinds.Cause.{Cause}
use Rattle.nq_goals.specs.Paths.{Above, passed}
use Rattle.nq_goals.specs.Trees.{Step, steps_below, IsGoalAt, at_first, at_step, IsLeftOf, Fate, led_on, left_over, IsSettled, IsFirstLeftOver}
use Rattle.nq_goals.specs.Forests.{Forest, Nothing, Goal, size, step, numbered, IsLedTo, kind_of, AreUnsolved, IsFirstCause, UnsolvedIsFailureTree}
use Rattle.nq_goals.proofs.Steps.{below_joined, none_below, taken_below, skipped_below, InRange, ranges, top_steps, top_goals, none_within, own_below, counted, at_seam, earlier}

-- the parent of a step that stands outside of the numbers from n to m
abbrev Outside : ℕ → ℕ → Step → Type 0
Outside n m s = (s.parent < n) ⊎ (m ≤ s.parent)

module _ (h : History) (hints : Hints) where
  tops_of_kind : (p : ℕ) (above : Above) (kind : MoveKind) (f : Forest) → AreUnsolved h hints above kind f → Each (λ s. s.kind ≡ kind) (top_steps p f)
  tops_of_kind p above _ Nothing u = tt
  tops_of_kind p above kind (Goal k g below beside) u = (u.0, tops_of_kind p above kind beside u.3)

  -- what became of a goal with this forest below it
  fate_of : (p : ℕ) (above : Above) (goal : Clause) (f : Forest) → IsLedTo h hints above goal f → AreUnsolved h hints (passed goal (kind_of f) ∷ above) (kind_of f) f →
      Fate h hints above goal (top_steps p f)
  fate_of p above goal Nothing l u = left_over l.0 l.1
  fate_of p above goal (Goal k g below beside) l u =
      led_on k l.0 (step p k g) (top_steps p beside) (refl, tops_of_kind p (passed goal k ∷ above) k beside u.3) l.1
      (subst (λ goals. IsLeftOf h l.0 (g ∷ goals)) (sym (top_goals p beside)) l.2)

  -- the numbers of a forest are where its parts stand among all steps
  module _ (first : Clause) (steps : List Step) where
    -- where a step stands
    placed : (p : ℕ) (kind : MoveKind) (above : Above) (goal g : Clause) (before after : List Step) (k : ℕ) → length before ≡ k →
        steps ≡ before ++ (step p kind g ∷ after) → IsGoalAt first steps p above goal → IsGoalAt first steps (suc k) (passed goal kind ∷ above) g
    placed p kind above goal g before after k count is at =
        at_step k p kind above goal g (subst (λ n. slice_get steps n ≡ Some (step p kind g)) count (ap (λ r. slice_get r (length before)) is ∙ at_seam before (step p kind g) after)) at

    -- what is below the first goal of a forest, which is number suc k
    below_first : (p k : ℕ) (kind : MoveKind) (g : Clause) (below beside : Forest) (before after : List Step) →
        steps ≡ before ++ (numbered p (suc k) (Goal kind g below beside) ++ after) → p < suc k →
        Each (λ s. s.parent < suc k) before → Each (Outside (suc k) (suc k + size (Goal kind g below beside))) after → steps_below (suc k) steps ≡ top_steps (suc k) below
    below_first p k kind g below beside before after is o early late =
        let n = suc k in
        let inner = numbered n (suc n) below in
        let outer = numbered p (suc (n + size below)) beside in
        let none_before : steps_below n before ≡ [] = none_below n before (each_mono (λ s. s.parent < n) (λ s. s.parent ≡ n → ⊥) (λ s l e. omega (arith, l, e)) before early) in
        let none_after : steps_below n after ≡ [] = none_below n after (each_mono (Outside n (n + suc (size below + size beside))) (λ s. s.parent ≡ n → ⊥) (λ s. outside s) after late) in
        let none_outer : steps_below n outer ≡ [] = none_within p (suc (n + size below)) n beside (omega (arith, o)) (λ e. omega (arith, o, e)) (inl (omega arith)) in
        let own : steps_below n inner ≡ top_steps n below = own_below n (suc n) below (omega arith) in
        let rest : steps_below n ((inner ++ outer) ++ after) ≡ top_steps n below =
        below_joined n (inner ++ outer) after ∙ (ap₂ (λ a b. a ++ b) (below_joined n inner outer ∙ (ap₂ (λ a b. a ++ b) own none_outer ∙ append-nil (top_steps n below))) none_after ∙ append-nil (top_steps n below)) in
        ap (steps_below n) is ∙ (below_joined n before (step p kind g ∷ ((inner ++ outer) ++ after)) ∙
        (ap₂ (λ a b. a ++ b) none_before (skipped_below n (step p kind g) ((inner ++ outer) ++ after) (λ e. omega (arith, o, e)) ∙ rest)))
      where
        outside : (s : Step) → Outside (suc k) (suc k + suc (size below + size beside)) s → s.parent ≡ suc k → ⊥
        outside s (inl l) e = omega (arith, l, e)
        outside s (inr l) e = omega (arith, l, e)

    by_place : {X : Type 0} (m n a : ℕ) → n ≤ m → (m ≡ n → X) → (suc n ≤ m → m < suc n + a → X) → (suc (n + a) ≤ m → X) → X
    by_place {X = X} m n a low f g r = of_order (cases_order m n)
      where
        of_end : suc n ≤ m → (m ≡ suc n + a) ⊎ ((m < suc n + a) ⊎ (suc n + a < m)) → X
        of_end l (inl e) = r (omega (arith, e))
        of_end l (inr (inl e)) = g l e
        of_end l (inr (inr e)) = r (omega (arith, e))

        of_order : (m ≡ n) ⊎ ((m < n) ⊎ (n < m)) → X
        of_order (inl e) = f e
        of_order (inr (inl l)) = absurd (omega (arith, l, low))
        of_order (inr (inr l)) = of_end (omega (arith, l)) (cases_order m (suc n + a))

    one_more : (before : List Step) (s : Step) (k : ℕ) → length before ≡ k → length (before ++ (s ∷ [])) ≡ suc k
    one_more before s k e = length-append before (s ∷ []) ∙ omega (arith, e)

    more : (before : List Step) (s : Step) (inner : List Step) (k a : ℕ) → length before ≡ k → length inner ≡ a → length (before ++ (s ∷ inner)) ≡ suc k + a
    more before s inner k a e f = length-append before (s ∷ inner) ∙ longer (length before) (length inner) e f
      where
        longer : (b i : ℕ) → b ≡ k → i ≡ a → b + suc i ≡ suc k + a
        longer b i e f = omega (arith, e, f)

    inner_seam : (before : List Step) (s : Step) (inner outer after : List Step) → before ++ (s ∷ ((inner ++ outer) ++ after)) ≡ (before ++ (s ∷ [])) ++ (inner ++ (outer ++ after))
    inner_seam before s inner outer after =
        ap (λ r. before ++ (s ∷ r)) (append_assoc inner outer after) ∙ sym (append_assoc before (s ∷ []) (inner ++ (outer ++ after)))

    outer_seam : (before : List Step) (s : Step) (inner outer after : List Step) → before ++ (s ∷ ((inner ++ outer) ++ after)) ≡ (before ++ (s ∷ inner)) ++ (outer ++ after)
    outer_seam before s inner outer after =
        ap (λ r. before ++ (s ∷ r)) (append_assoc inner outer after) ∙ sym (append_assoc before (s ∷ inner) (outer ++ after))

    beyond : (p k a : ℕ) (s : Step) → p < suc k → (s.parent ≡ p) ⊎ (suc (suc k + a) ≤ s.parent) → Outside (suc (suc k)) (suc (suc k) + a) s
    beyond p k a s o (inl e) = inl (omega (arith, o, e))
    beyond p k a s o (inr l) = inr (omega (arith, l))

    wider : (n a b : ℕ) (s : Step) → Outside n (n + suc (a + b)) s → Outside (suc n) (suc n + a) s
    wider n a b s (inl l) = inl (omega (arith, l))
    wider n a b s (inr l) = inr (omega (arith, l))

    narrower : (n a b : ℕ) (s : Step) → Outside n (n + suc (a + b)) s → Outside (suc (n + a)) (suc (n + a) + b) s
    narrower n a b s (inl l) = inl (omega (arith, l))
    narrower n a b s (inr l) = inr (omega (arith, l))

    -- each goal of a forest has its fate
    settled : (f : Forest) (p k : ℕ) (kind : MoveKind) (above : Above) (goal : Clause) (before after : List Step) →
        steps ≡ before ++ (numbered p (suc k) f ++ after) → length before ≡ k → p < suc k →
        Each (λ s. s.parent < suc k) before → Each (Outside (suc k) (suc k + size f)) after →
        IsGoalAt first steps p above goal → AreUnsolved h hints (passed goal kind ∷ above) kind f →
        (m : ℕ) → suc k ≤ m → m < suc k + size f → IsSettled h hints first steps m
    settled Nothing p k _ above goal before after is count o early late at u m low high = absurd (omega (arith, low, high))
    settled (Goal kd g below beside) p k kind above goal before after is count o early late at u m low high =
        let n = suc k in
        let s = step p kd g in
        let inner = numbered n (suc n) below in
        let outer = numbered p (suc (n + size below)) beside in
        let here : IsGoalAt first steps n (passed goal kind ∷ above) g = subst (λ j. IsGoalAt first steps n (passed goal j ∷ above) g) u.0 (placed p kd above goal g before ((inner ++ outer) ++ after) k count is at) in
        let fate : Fate h hints (passed goal kind ∷ above) g (steps_below n steps) =
        subst (λ xs. Fate h hints (passed goal kind ∷ above) g xs) (sym (below_first p k kd g below beside before after is o early late)) (fate_of n (passed goal kind ∷ above) g below u.1 u.2) in
        by_place m n (size below) low
        (λ e. record { above = passed goal kind ∷ above; goal = g; stands = subst (λ j. IsGoalAt first steps j (passed goal kind ∷ above) g) (sym e) here; fate = subst (λ j. Fate h hints (passed goal kind ∷ above) g (steps_below j steps)) (sym e) fate })
        (λ l l'. settled below n n (kind_of below) (passed goal kind ∷ above) g (before ++ (s ∷ [])) (outer ++ after)
        (is ∙ inner_seam before s inner outer after) (one_more before s k count) (omega arith)
        (each_append (λ s. s.parent < suc n) before (s ∷ []) (each_mono (λ s. s.parent < n) (λ s. s.parent < suc n) (λ s l. omega (arith, l)) before early) (omega (arith, o), tt))
        (each_append (Outside (suc n) (suc n + size below)) outer after
        (each_mono (InRange p (suc (n + size below)) (suc (n + size below) + size beside)) (Outside (suc n) (suc n + size below)) (λ s r. beyond p k (size below) s o r.0) outer (ranges p (suc (n + size below)) beside (omega (arith, o))))
        (each_mono (Outside n (n + suc (size below + size beside))) (Outside (suc n) (suc n + size below)) (λ s r. wider n (size below) (size beside) s r) after late))
        here u.2 m l l')
        (λ l. settled beside p (n + size below) kind above goal (before ++ (s ∷ inner)) after
        (is ∙ outer_seam before s inner outer after) (more before s inner k (size below) count (counted n (suc n) below)) (omega (arith, o))
        (each_append (λ s. s.parent < suc (n + size below)) before (s ∷ inner) (each_mono (λ s. s.parent < n) (λ s. s.parent < suc (n + size below)) (λ s l. omega (arith, l)) before early)
        (omega (arith, o), each_mono (InRange n (suc n) (suc n + size below)) (λ s. s.parent < suc (n + size below)) (λ s r. omega (arith, r.1)) inner (ranges n (suc n) below (omega arith))))
        (each_mono (Outside n (n + suc (size below + size beside))) (Outside (suc (n + size below)) (suc (n + size below) + size beside)) (λ s r. narrower n (size below) (size beside) s r) after late)
        at u.3 m l (omega (arith, high)))

    -- the first goal that is left over, down the first tops; the goal of the number k has this forest below it
    left_first : (f : Forest) (k : ℕ) (above : Above) (goal : Clause) (before after : List Step) (cause : Cause) →
        steps ≡ before ++ (numbered k (suc k) f ++ after) → length before ≡ k →
        Each (λ s. s.parent < k) before → Each (Outside k (suc k + size f)) after → ((m : ℕ) → m < k → steps_below m steps ≡ [] → ⊥) →
        IsGoalAt first steps k above goal → IsFirstCause h hints above goal f cause → IsFirstLeftOver h hints first steps cause
    left_first Nothing k above goal before after cause is count early late some at spent =
        record { number = k; above = above; goal = goal; stands = at; none_below = none; least = some; spent = spent }
      where
        outside : (s : Step) → Outside k (suc k + 0) s → s.parent ≡ k → ⊥
        outside s (inl l) e = omega (arith, l, e)
        outside s (inr l) e = omega (arith, l, e)

        none : steps_below k steps ≡ []
        none =
            let a : steps_below k before ≡ [] = none_below k before (each_mono (λ s. s.parent < k) (λ s. s.parent ≡ k → ⊥) (λ s l e. omega (arith, l, e)) before early) in
            let b : steps_below k after ≡ [] = none_below k after (each_mono (Outside k (suc k + 0)) (λ s. s.parent ≡ k → ⊥) outside after late) in
            ap (steps_below k) is ∙ (below_joined k before after ∙ ap₂ (λ x y. x ++ y) a b)
    left_first (Goal kd g below beside) k above goal before after cause is count early late some at spent =
        let n = suc k in
        let s = step k kd g in
        let inner = numbered n (suc n) below in
        let outer = numbered k (suc (n + size below)) beside in
        left_first below n (passed goal kd ∷ above) g (before ++ (s ∷ [])) (outer ++ after) cause
        (is ∙ inner_seam before s inner outer after) (one_more before s k count)
        (each_append (λ s. s.parent < n) before (s ∷ []) (each_mono (λ s. s.parent < k) (λ s. s.parent < n) (λ s l. omega (arith, l)) before early) (omega arith, tt))
        (each_append (Outside n (suc n + size below)) outer after
        (each_mono (InRange k (suc (n + size below)) (suc (n + size below) + size beside)) (Outside n (suc n + size below)) (λ s r. at_parent k (size below) s r.0) outer (ranges k (suc (n + size below)) beside (omega arith)))
        (each_mono (Outside k (suc k + suc (size below + size beside))) (Outside n (suc n + size below)) (λ s r. later k (size below) (size beside) s r) after late))
        (λ m l e. some_below m (cases_order m k) l e)
        (placed k kd above goal g before ((inner ++ outer) ++ after) k count is at) spent
      where
        at_parent : (k a : ℕ) (s : Step) → (s.parent ≡ k) ⊎ (suc (suc k + a) ≤ s.parent) → Outside (suc k) (suc (suc k) + a) s
        at_parent k a s (inl e) = inl (omega (arith, e))
        at_parent k a s (inr l) = inr (omega (arith, l))

        later : (k a b : ℕ) (s : Step) → Outside k (suc k + suc (a + b)) s → Outside (suc k) (suc (suc k) + a) s
        later k a b s (inl l) = inl (omega (arith, l))
        later k a b s (inr l) = inr (omega (arith, l))

        not_none : (xs ys : List Step) (s : Step) → xs ++ (s ∷ ys) ≡ [] → ⊥
        not_none [] ys s e = cc
        not_none (x ∷ xs) ys s e = cc

        here : steps_below k steps ≡ [] → ⊥
        here e =
            let rest = (numbered (suc k) (suc (suc k)) below ++ numbered k (suc (suc k + size below)) beside) ++ after in
            let is' : steps_below k steps ≡ steps_below k before ++ (step k kd g ∷ steps_below k rest) =
            ap (steps_below k) is ∙ (below_joined k before (step k kd g ∷ rest) ∙ ap (λ r. steps_below k before ++ r) (taken_below k (step k kd g) rest refl)) in
            not_none (steps_below k before) (steps_below k rest) (step k kd g) (sym is' ∙ e)

        some_below : (m : ℕ) → (m ≡ k) ⊎ ((m < k) ⊎ (k < m)) → m < suc k → steps_below m steps ≡ [] → ⊥
        some_below m (inl e) l none = here (subst (λ j. steps_below j steps ≡ []) e none)
        some_below m (inr (inl l')) l none = some m l' none
        some_below m (inr (inr l')) l none = omega (arith, l, l')

pub unsolved_is_failure_tree : UnsolvedIsFailureTree
unsolved_is_failure_tree h hints first forest cause u =
    let steps = numbered 0 1 forest in
    let count : length steps ≡ size forest = counted 0 1 forest in
    let is : steps ≡ [] ++ (steps ++ []) = sym (append-nil steps) in
    let root : Fate h hints [] first (steps_below 0 steps) =
    subst (λ xs. Fate h hints [] first xs) (sym (own_below 0 1 forest (omega arith))) (fate_of h hints 0 [] first forest u.led u.below) in
    record {
      earlier = earlier 0 1 forest (omega arith);
      settled = λ n l. of_number n (cases_order n 0) root (λ low high. settled h hints first steps forest 0 0 (kind_of forest) [] first [] [] is refl (omega arith) tt tt at_first u.below n low high)
          (omega (arith, l, count));
      caused = left_first h hints first steps forest 0 [] first [] [] cause is refl tt tt (λ m l e. omega (arith, l)) at_first u.caused;
    }
  where
    of_number : (n : ℕ) → (n ≡ 0) ⊎ ((n < 0) ⊎ (0 < n)) → Fate h hints [] first (steps_below 0 (numbered 0 1 forest)) →
        (1 ≤ n → n < 1 + size forest → IsSettled h hints first (numbered 0 1 forest) n) → n < 1 + size forest → IsSettled h hints first (numbered 0 1 forest) n
    of_number n (inl e) root f high =
        subst (λ j. IsSettled h hints first (numbered 0 1 forest) j) (sym e) (record { above = []; goal = first; stands = at_first; fate = root })
    of_number n (inr (inl l)) root f high = absurd (omega (arith, l))
    of_number n (inr (inr l)) root f high = f (omega (arith, l)) high
