-- The costs of parts are added, and the greater nesting is taken.
use Rattle.std.proofs.Common.{◌≡◌, ◌≤◌, ◌<◌, ◌+◌, ◌-◌, ℕ, zero, suc, max, Bool, true, false, ◌&&◌, Option, Some, None, List, [], ◌∷◌, ◌++◌, map, refl, sym, ap, ap₂, ◌∙◌, arith}
use Rattle.std.specs.Prelude.{nat_le, codes}
use Rattle.std.proofs.lemmas.Bool.{le-leb, lt-leb, leb-true, leb-false}
use Rattle.nq_logic.specs.Terms.{Name, Term, Variable, Function, Applied, applied, call}
use Rattle.nq_logic.specs.Words.{if_term}
use Rattle.nq_logic.specs.Histories.{History}
use Rattle.nq_logic.specs.Numerals.{number_of}
use Rattle.nq_logic.specs.Values.{is_value, is_tree_value}
use Rattle.nq_proof.specs.Values.{value_of, is_true}
use Rattle.nq_value.specs.Passing.{passes}
use Rattle.nq_fragments.specs.Outcomes.{Outcome, Reached, BlockedAt, OutOfFuel, and_next, is_small, is_shallow, kept}
use Rattle.nq_fragments.specs.Openings.{Opening, opening_of, body_of}
use Rattle.nq_fragments.specs.Evaluation.{Way, opened, opened_by, without_row, by_row, on_values, applied_to, side, choice_of, chosen, of_call, given_more, in_context, nowhere, outcome_within}
use Rattle.nq_eval.specs.Costs.{granted, inner, Takes, TakesEach, CallTakes}

abbrev granted_if : Bool → ℕ → Way → Outcome
granted_if b left next = elim b as (λ b. Outcome) [ true ↦ next left | false ↦ OutOfFuel ]

fit : (a c k n : ℕ) → a ≤ c → k ≤ n → (nat_le a c && nat_le k n) ≡ true
fit a c k n h j = ap₂ (λ p q. p && q) (le-leb a c h) (le-leb k n j)

-- a variable is no small value
no_value : (x : Name) → is_small (Variable x) ≡ false
unfolding number_of is_tree_value
no_value x = refl

and_false : (b : Bool) → (b && false) ≡ false
and_false true = refl
and_false false = refl

-- where they fit
pub granted_yes : (a k n c : ℕ) (g : Way) → a ≤ c → k ≤ n → granted a k n c g ≡ g (c - a)
granted_yes a k n c g h j = ap (λ b. granted_if b (c - a) g) (fit a c k n h j)

-- where the calls do not, or the nesting
pub granted_few : (a k n c : ℕ) (g : Way) → c < a → granted a k n c g ≡ OutOfFuel
granted_few a k n c g h = ap (λ b. granted_if (b && nat_le k n) (c - a) g) (lt-leb a c h)

pub granted_flat : (a k n c : ℕ) (g : Way) → n < k → granted a k n c g ≡ OutOfFuel
granted_flat a k n c g h = ap (λ b. granted_if b (c - a) g) (ap (λ b. nat_le a c && b) (lt-leb k n h) ∙ and_false (nat_le a c))

pub granted_none : (n c : ℕ) (g : Way) → granted 0 0 n c g ≡ g c
granted_none n c g = granted_yes 0 0 n c g (omega arith) (omega arith) ∙ ap g (omega arith)

next_if : (b : Bool) (v : Term) (left : ℕ) (f : Term → Way) → and_next (granted_if b left (Reached v)) f ≡ granted_if b left (f v)
next_if true v left f = refl
next_if false v left f = refl

pub next_granted : (v : Term) (a k n c : ℕ) (f : Term → Way) → and_next (granted a k n c (Reached v)) f ≡ granted a k n c (f v)
next_granted v a k n c f = next_if (nat_le a c && nat_le k n) v (c - a) f

-- what follows is the same
pub granted_same : (a k n c : ℕ) (f g : Way) → ((left : ℕ) → f left ≡ g left) → granted a k n c f ≡ granted a k n c g
granted_same a k n c f g h = by_test (nat_le a c && nat_le k n)
  where
    by_test : (b : Bool) → granted_if b (c - a) f ≡ granted_if b (c - a) g
    by_test true = h (c - a)
    by_test false = refl

pub granted_twice : (a k b m n c : ℕ) (g : Way) → granted a k n c (λ left. granted b m n left g) ≡ granted (a + b) (max k m) n c g
granted_twice a k b m n c g = by_test (nat_le a c) refl (nat_le k n) refl (nat_le b (c - a)) refl (nat_le m n) refl
  where
    by_test : (p : Bool) → nat_le a c ≡ p → (q : Bool) → nat_le k n ≡ q → (r : Bool) → nat_le b (c - a) ≡ r → (s : Bool) → nat_le m n ≡ s →
        granted_if (p && q) (c - a) (λ left. granted_if (nat_le b left && s) (left - b) g) ≡ granted (a + b) (max k m) n c g
    by_test false e q e1 r e2 s e3 = let h : c < a = leb-false a c e in sym (granted_few (a + b) (max k m) n c g (omega (arith, h)))
    by_test true e false e1 r e2 s e3 = let h : n < k = leb-false k n e1 in sym (granted_flat (a + b) (max k m) n c g (omega (arith, h)))
    by_test true e true e1 false e2 s e3 =
        let h : a ≤ c = leb-true a c e in
        let j : c - a < b = leb-false b (c - a) e2 in
        ap (λ t. granted_if (t && s) (c - a - b) g) e2 ∙ sym (granted_few (a + b) (max k m) n c g (omega (arith, h, j)))
    by_test true e true e1 true e2 false e3 =
        let h : n < m = leb-false m n e3 in
        ap (λ t. granted_if t (c - a - b) g) (and_false (nat_le b (c - a))) ∙ sym (granted_flat (a + b) (max k m) n c g (omega (arith, h)))
    by_test true e true e1 true e2 true e3 =
        let h : a ≤ c = leb-true a c e in
        let j : b ≤ c - a = leb-true b (c - a) e2 in
        let i : k ≤ n = leb-true k n e1 in
        let l : m ≤ n = leb-true m n e3 in
        ap (λ t. granted_if (t && true) (c - a - b) g) e2 ∙ ap g (omega (arith, h, j)) ∙ sym (granted_yes (a + b) (max k m) n c g (omega (arith, h, j)) (omega (arith, i, l)))

module _ (h : History) where
  -- what a term given more arguments evaluates to
  given_more-applied : (within : Term → Way) (t : Term) (ts : List Term) (ws : List Way) (left : ℕ) → given_more h within (applied t ts) ws left ≡ given_more h within t (map (in_context h within) ts ++ ws) left
  given_more-applied within t [] ws left = refl
  given_more-applied within t (u ∷ ts) ws left = given_more-applied within (Applied t u) ts ws left

  none_more : (ws : List Way) → ws ++ [] ≡ ws
  none_more [] = refl
  none_more (w ∷ ws) = ap (λ rest. w ∷ rest) (none_more ws)

  small_if : (b : Bool) → b ≡ false → (t : Term) (other : Way) (left : ℕ) → elim b as (λ b. Outcome) [ true ↦ Reached t left | false ↦ other left ] ≡ other left
  small_if true e t other left = absurd cc
  small_if false e t other left = refl

  small_yes : (b : Bool) → b ≡ true → (t : Term) (other : Way) (left : ℕ) → elim b as (λ b. Outcome) [ true ↦ Reached t left | false ↦ other left ] ≡ Reached t left
  small_yes true e t other left = refl
  small_yes false e t other left = absurd cc

  call_in : (within : Term → Way) (f : Name) (ts : List Term) (left : ℕ) → is_small (call f ts) ≡ false → in_context h within (call f ts) left ≡ of_call h within f (map (in_context h within) ts) left
  call_in within f ts left e =
      small_if (is_small (call f ts)) e (call f ts) (given_more h within (call f ts) []) left ∙ given_more-applied within (Function f) ts [] left ∙
      ap (λ ws. of_call h within f ws left) (none_more (map (in_context h within) ts))

  -- a call that is no small value
  pub outcome_call : (n : ℕ) (f : Name) (ts : List Term) (left : ℕ) → is_small (call f ts) ≡ false → outcome_within h n (call f ts) left ≡ of_call h (inner h n) f (map (outcome_within h n) ts) left
  unfolding outcome_within
  outcome_call zero f ts left e = call_in nowhere f ts left e
  outcome_call (suc n) f ts left e = call_in (outcome_within h n) f ts left e

  -- a small value
  pub small_takes : (t : Term) → is_small t ≡ true → Takes h t t 0 0
  unfolding outcome_within
  small_takes t e = record { within = λ n left. by_nesting n left ∙ sym (granted_none n left (Reached t)) }
    where
      by_nesting : (n left : ℕ) → outcome_within h n t left ≡ Reached t left
      by_nesting zero left = small_yes (is_small t) e t (given_more h nowhere t []) left
      by_nesting (suc n) left = small_yes (is_small t) e t (given_more h (outcome_within h n) t []) left

  -- a variable has no value
  pub variable_outcome : (n : ℕ) (x : Name) (left : ℕ) → outcome_within h n (Variable x) left ≡ BlockedAt (Variable x)
  unfolding outcome_within
  variable_outcome zero x left = small_if (is_small (Variable x)) (no_value x) (Variable x) (given_more h nowhere (Variable x) []) left
  variable_outcome (suc n) x left = small_if (is_small (Variable x)) (no_value x) (Variable x) (given_more h (outcome_within h n) (Variable x) []) left

  applied_append : (next : Term → Way) (u : Term) (ws xs : List Way) (left : ℕ) → applied_to next u (ws ++ xs) left ≡ applied_to (λ v. applied_to next v xs) u ws left
  applied_append next u [] xs left = refl
  applied_append next u (w ∷ ws) xs left = ap (and_next (w left)) (λ i v rest. applied_append next (Applied u v) ws xs rest i)

  pub none_taken : TakesEach h [] [] 0 0
  none_taken = record { within = λ n left u next. sym (granted_none n left (next u)) }

  map_append : (f : Term → Way) (ts us : List Term) → map f (ts ++ us) ≡ map f ts ++ map f us
  map_append f [] us = refl
  map_append f (t ∷ ts) us = ap (λ ws. f t ∷ ws) (map_append f ts us)

  applied_last : (u : Term) (vs : List Term) (v : Term) → applied u (vs ++ v ∷ []) ≡ Applied (applied u vs) v
  applied_last u [] v = refl
  applied_last u (w ∷ vs) v = applied_last (Applied u w) vs v

  -- what comes after the arguments so far
  pub applied_rest : (ts vs us : List Term) (a k : ℕ) → TakesEach h ts vs a k → (n left : ℕ) (u : Term) (next : Term → Way) →
      applied_to next u (map (outcome_within h n) (ts ++ us)) left ≡ granted a k n left (applied_to next (applied u vs) (map (outcome_within h n) us))
  applied_rest ts vs us a k each n left u next =
      ap (λ ws. applied_to next u ws left) (map_append (outcome_within h n) ts us) ∙
      applied_append next u (map (outcome_within h n) ts) (map (outcome_within h n) us) left ∙
      each.within n left u (λ v. applied_to next v (map (outcome_within h n) us))

  -- one more argument
  pub one_more_taken : (ts vs : List Term) (t v : Term) (a k b m : ℕ) → TakesEach h ts vs a k → Takes h t v b m → TakesEach h (ts ++ t ∷ []) (vs ++ v ∷ []) (a + b) (max k m)
  one_more_taken ts vs t v a k b m each one =
      record {
        within = λ n left u next.
            applied_rest ts vs (t ∷ []) a k each n left u next ∙
            granted_same a k n left (applied_to next (applied u vs) (map (outcome_within h n) (t ∷ []))) (λ rest. granted b m n rest (next (Applied (applied u vs) v)))
            (λ rest. ap (λ o. and_next o (λ w more. next (Applied (applied u vs) w) more)) (one.within n rest) ∙ next_granted v b m n rest (λ w more. next (Applied (applied u vs) w) more)) ∙
            granted_twice a k b m n left (next (Applied (applied u vs) v)) ∙
            ap (λ w. granted (a + b) (max k m) n left (next w)) (sym (applied_last u vs v));
      }

  -- the next argument stops
  pub stops_at : (ts vs us : List Term) (t : Term) (a k n left : ℕ) (o : Outcome) → TakesEach h ts vs a k → a ≤ left → k ≤ n → outcome_within h n t (left - a) ≡ o → ((f : Term → Way) → and_next o f ≡ o) → (u : Term) (next : Term → Way) →
      applied_to next u (map (outcome_within h n) (ts ++ t ∷ us)) left ≡ o
  stops_at ts vs us t a k n left o each few flat stop still u next =
      applied_rest ts vs (t ∷ us) a k each n left u next ∙
      granted_yes a k n left (applied_to next (applied u vs) (map (outcome_within h n) (t ∷ us))) few flat ∙
      ap (λ p. and_next p (λ v rest. applied_to next (Applied (applied u vs) v) (map (outcome_within h n) us) rest)) stop ∙
      still (λ v rest. applied_to next (Applied (applied u vs) v) (map (outcome_within h n) us) rest)

  -- all arguments, and then the call of their values
  pub arguments_done : (f : Name) (ts vs : List Term) (a k n left : ℕ) → TakesEach h ts vs a k → is_small (call f ts) ≡ false → choice_of f (map (outcome_within h n) ts) ≡ None →
      outcome_within h n (call f ts) left ≡ granted a k n left (on_values h (inner h n) (call f vs))
  arguments_done f ts vs a k n left each e other =
      outcome_call n f ts left e ∙ ap (λ o. chosen o (applied_to (on_values h (inner h n)) (Function f) (map (outcome_within h n) ts)) left) other ∙
      each.within n left (Function f) (on_values h (inner h n))

  pub call_taken : (f : Name) (ts vs : List Term) (v : Term) (a k b m : ℕ) → TakesEach h ts vs a k → CallTakes h (call f vs) v b m → is_small (call f ts) ≡ false → ((n : ℕ) → choice_of f (map (outcome_within h n) ts) ≡ None) →
      Takes h (call f ts) v (a + b) (max k m)
  call_taken f ts vs v a k b m each one e other =
      record {
        within = λ n left.
            arguments_done f ts vs a k n left each e (other n) ∙
            granted_same a k n left (on_values h (inner h n) (call f vs)) (λ rest. granted b m n rest (Reached v)) (one.within n) ∙
            granted_twice a k b m n left (Reached v);
      }

  -- an opening takes one call more, and nests once more
  pub opened_taken : (t v : Term) (a k : ℕ) → Takes h t v a k → (n left : ℕ) → opened (inner h n) t left ≡ granted (a + 1) (k + 1) n left (Reached v)
  opened_taken t v a k one zero zero = sym (granted_flat (a + 1) (k + 1) 0 0 (Reached v) (omega arith))
  opened_taken t v a k one zero (suc left) = sym (granted_flat (a + 1) (k + 1) 0 (suc left) (Reached v) (omega arith))
  opened_taken t v a k one (suc n) zero = sym (granted_few (a + 1) (k + 1) (suc n) 0 (Reached v) (omega arith))
  opened_taken t v a k one (suc n) (suc left) = one.within n left ∙ shifted (nat_le a left) refl (nat_le k n) refl
    where
      shifted : (p : Bool) → nat_le a left ≡ p → (q : Bool) → nat_le k n ≡ q → granted_if (p && q) (left - a) (Reached v) ≡ granted (a + 1) (k + 1) (suc n) (suc left) (Reached v)
      shifted false e q e1 = let i : left < a = leb-false a left e in sym (granted_few (a + 1) (k + 1) (suc n) (suc left) (Reached v) (omega (arith, i)))
      shifted true e false e1 = let i : n < k = leb-false k n e1 in sym (granted_flat (a + 1) (k + 1) (suc n) (suc left) (Reached v) (omega (arith, i)))
      shifted true e true e1 =
          let i : a ≤ left = leb-true a left e in
          let j : k ≤ n = leb-true k n e1 in
          let same : left - a ≡ suc left - (a + 1) = omega (arith, i) in
          ap (Reached v) same ∙ sym (granted_yes (a + 1) (k + 1) (suc n) (suc left) (Reached v) (omega (arith, i)) (omega (arith, j)))

  abbrev side_of : Bool → Term → Term → Term
  side_of b x y = elim b as (λ b. Term) [ true ↦ x | false ↦ y ]

  side_is : (b : Bool) (n : ℕ) (x y : Term) (left : ℕ) → elim b as (λ b. Outcome) [ true ↦ outcome_within h n x left | false ↦ outcome_within h n y left ] ≡ outcome_within h n (side_of b x y) left
  side_is true n x y left = refl
  side_is false n x y left = refl

  -- an IF whose test has a value
  pub choice_reached : (p x y v : Term) (a k n left : ℕ) → Takes h p v a k → is_small (if_term p x y) ≡ false →
      outcome_within h n (if_term p x y) left ≡ granted a k n left (outcome_within h n (side_of (is_true v) x y))
  choice_reached p x y v a k n left one e =
      outcome_call n (codes "IF") (p ∷ x ∷ y ∷ []) left e ∙
      ap (λ o. and_next o (side (outcome_within h n x) (outcome_within h n y))) (one.within n left) ∙
      next_granted v a k n left (side (outcome_within h n x) (outcome_within h n y)) ∙
      granted_same a k n left (side (outcome_within h n x) (outcome_within h n y) v) (outcome_within h n (side_of (is_true v) x y)) (λ rest. side_is (is_true v) n x y rest)

  pub choice_taken : (p x y v w : Term) (a k b m : ℕ) → Takes h p v a k → Takes h (side_of (is_true v) x y) w b m → is_small (if_term p x y) ≡ false → Takes h (if_term p x y) w (a + b) (max k m)
  choice_taken p x y v w a k b m one two e =
      record {
        within = λ n left.
            choice_reached p x y v a k n left one e ∙
            granted_same a k n left (outcome_within h n (side_of (is_true v) x y)) (λ rest. granted b m n rest (Reached w)) (two.within n) ∙
            granted_twice a k b m n left (Reached w);
      }

  -- an IF whose test stops
  pub choice_stops : (p x y : Term) (n left : ℕ) (o : Outcome) → outcome_within h n p left ≡ o → ((f : Term → Way) → and_next o f ≡ o) → is_small (if_term p x y) ≡ false → outcome_within h n (if_term p x y) left ≡ o
  choice_stops p x y n left o stop still e =
      outcome_call n (codes "IF") (p ∷ x ∷ y ∷ []) left e ∙
      ap (λ q. and_next q (side (outcome_within h n x) (outcome_within h n y))) stop ∙
      still (side (outcome_within h n x) (outcome_within h n y))

  -- a call on values by its row
  pub row_taken : (u v : Term) → value_of u ≡ Some v → is_shallow v ≡ true → CallTakes h u v 0 0
  row_taken u v e s =
      record { within = λ n left. ap (λ o. by_row h (inner h n) u o left) e ∙ ap (λ b. elim b as (λ b. Outcome) [ true ↦ Reached v left | false ↦ BlockedAt u ]) s ∙ sym (granted_none n left (Reached v)) }

  pub row_blocked : (n left : ℕ) (u v : Term) → value_of u ≡ Some v → is_shallow v ≡ false → on_values h (inner h n) u left ≡ BlockedAt u
  row_blocked n left u v e s = ap (λ o. by_row h (inner h n) u o left) e ∙ ap (λ b. elim b as (λ b. Outcome) [ true ↦ Reached v left | false ↦ BlockedAt u ]) s

  no_row : (n left : ℕ) (u : Term) → value_of u ≡ None → on_values h (inner h n) u left ≡ without_row h (inner h n) u left
  no_row n left u e = ap (λ o. by_row h (inner h n) u o left) e

  abbrev value_or : (n left : ℕ) (u : Term) → Bool → Bool → Outcome
  value_or n left u b p =
      elim b as (λ b. Outcome) [
        | true ↦ kept u u left
        | false ↦ elim p as (λ b. Outcome) [ true ↦ BlockedAt u | false ↦ opened_by (inner h n) u (opening_of h u) left ]
      ]

  -- a call on values that is a value
  pub value_taken : (u : Term) → value_of u ≡ None → is_value u ≡ true → is_shallow u ≡ true → CallTakes h u u 0 0
  value_taken u e v s =
      record {
        within = λ n left.
            no_row n left u e ∙ ap (λ b. value_or n left u b (passes u)) v ∙
            ap (λ b. elim b as (λ b. Outcome) [ true ↦ Reached u left | false ↦ BlockedAt u ]) s ∙ sym (granted_none n left (Reached u));
      }

  pub value_blocked : (n left : ℕ) (u : Term) → value_of u ≡ None → is_small u ≡ false → (is_value u ≡ false → passes u ≡ true) → on_values h (inner h n) u left ≡ BlockedAt u
  value_blocked n left u e large pass = no_row n left u e ∙ by_value (is_value u) refl large
    where
      by_value : (b : Bool) → is_value u ≡ b → (b && is_shallow u) ≡ false → value_or n left u b (passes u) ≡ BlockedAt u
      by_value true v s = ap (λ b. elim b as (λ b. Outcome) [ true ↦ Reached u left | false ↦ BlockedAt u ]) s
      by_value false v s = ap (λ p. value_or n left u false p) (pass v)

  -- a call on values that is opened, or that nothing opens
  pub opens_to : (n left : ℕ) (u : Term) (o : Option Opening) → value_of u ≡ None → is_value u ≡ false → passes u ≡ false → opening_of h u ≡ o → on_values h (inner h n) u left ≡ opened_by (inner h n) u o left
  opens_to n left u o e v p is = no_row n left u e ∙ ap (λ b. value_or n left u b (passes u)) v ∙ ap (λ b. value_or n left u false b) p ∙ ap (λ o. opened_by (inner h n) u o left) is

  pub opening_taken : (u v : Term) (o : Opening) (a k : ℕ) → value_of u ≡ None → is_value u ≡ false → passes u ≡ false → opening_of h u ≡ Some o → Takes h (body_of o) v a k → CallTakes h u v (a + 1) (k + 1)
  opening_taken u v o a k e f p is one = record { within = λ n left. opens_to n left u (Some o) e f p is ∙ opened_taken (body_of o) v a k one n left }

  pub opened_within : (t : Term) (n left : ℕ) → 0 < n → 0 < left → opened (inner h n) t left ≡ outcome_within h (n - 1) t (left - 1)
  opened_within t zero left i j = absurd (omega arith)
  opened_within t (suc n) zero i j = absurd (omega arith)
  opened_within t (suc n) (suc left) i j =
      let one : n ≡ suc n - 1 = omega arith in
      let two : left ≡ suc left - 1 = omega arith in
      ap₂ (λ m k. outcome_within h m t k) one two

  pub opened_nowhere : (t : Term) (n left : ℕ) → n ≡ 0 → opened (inner h n) t left ≡ OutOfFuel
  opened_nowhere t zero zero e = refl
  opened_nowhere t zero (suc left) e = refl
  opened_nowhere t (suc n) left e = absurd (omega (arith, e))

  pub opened_never : (t : Term) (n left : ℕ) → left ≡ 0 → opened (inner h n) t left ≡ OutOfFuel
  opened_never t n zero e = refl
  opened_never t n (suc left) e = absurd (omega (arith, e))
