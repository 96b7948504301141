-- The calls within a body that is not too deep, with the tests that govern them.
use Rattle.std.proofs.Common.{◌≡◌, ◌<◌, ◌≤◌, ◌+◌, ℕ, zero, suc, max, Bool, true, false, Option, Some, None, List, [], ◌∷◌, if◌then◌else◌, cond, inr, refl, subst, arith}
use Rattle.std.specs.Prelude.{bytes_eq, codes, not, is_some}
use Rattle.nq_logic.specs.Terms.{Name, Term, Variable, Function, Applied, Symbol, Takes, IsAmong, Each, value_at}
use Rattle.nq_logic.specs.Words.{not_term}
use Rattle.nq_logic.specs.Numerals.{number_of, next_number}
use Rattle.nq_logic.specs.Sizes.{tree_depth, depth_of}
use Rattle.nq_logic.specs.Histories.{History}
use Rattle.nq_logic.specs.Ground.{symbols_of}
use Rattle.nq_logic.specs.Admissible.{mentions, matched, Call, governed, all_calls, second_side, both_sides, if_calls, own_call, calls_with, calls_of}
use Rattle.nq_logic.proofs.Lists.{each_append}
use Rattle.nq_logic.proofs.Symbols.{not_symbol}
use Rattle.nq_bank.proofs.Numerals.{depth_of-number, number_of-call, depth_of-other}
use Rattle.nq_proof.proofs.CalledTerms.{without_function}
use Rattle.nq_kernel.specs.Over.{IsVariable, IsTermOf, VariablesAre}
use Rattle.nq_kernel.specs.Ready.{body_depth}
use Rattle.nq_calls.specs.Calls.{beneath, counted_calls, older_tests}
use Rattle.nq_measures.specs.Trials.{IsShallowTerm, IsCounted}

-- a term within another one that is not too deep
record IsWithin (symbols : List Symbol) (t : Term) : Type 0 where
  of : IsTermOf IsVariable symbols t
  less : depth_of t < body_depth

module _ (symbols : List Symbol) where
  -- each argument within the term
  abbrev Within : Term → Type 0
  Within (Variable x) = Unit {0}
  Within (Function f) = Unit {0}
  Within (Applied t u) = Within t × (IsWithin symbols u × Within u)

  pub record IsShallowCall (c : Call) : Type 0 where
    pub tests : Each (IsShallowTerm symbols) c.tests
    pub arguments : Each (IsShallowTerm symbols) c.arguments

  shallow_within : (t : Term) → IsWithin symbols t → IsShallowTerm symbols t
  shallow_within t w = record { of = w.of; shallow = omega (arith, w.less) }

  each_within : (ts : List Term) → Each (IsWithin symbols) ts → Each (IsShallowTerm symbols) ts
  each_within [] w = tt
  each_within (t ∷ ts) w = (shallow_within t w.0, each_within ts w.1)

  module _ (not_here : IsAmong (codes "NOT", 1) symbols) where
    denied_within : (t : Term) → IsWithin symbols t → IsShallowTerm symbols (not_term t)
    denied_within t w =
        let whole : depth_of (not_term t) ≡ max (depth_of t) 0 + 1 = depth_of-other (codes "NOT") (t ∷ []) (number_of-call (codes "NOT") (t ∷ [])) in
        record { of = record { over = (not_here, w.of.over); variables = (tt, w.of.variables) }; shallow = omega (arith, whole, w.less) }

    all_shallow : (calls : List (List Call)) → Each (Each IsShallowCall) calls → Each IsShallowCall (all_calls calls)
    all_shallow [] w = tt
    all_shallow (c ∷ calls) w = each_append IsShallowCall c (all_calls calls) w.0 (all_shallow calls w.1)

    governed_shallow : (p : Term) (calls : List Call) → IsShallowTerm symbols p → Each IsShallowCall calls → Each IsShallowCall (governed p calls)
    governed_shallow p [] o w = tt
    governed_shallow p (c ∷ calls) o w = (record { tests = (o, w.0.tests); arguments = w.0.arguments }, governed_shallow p calls o w.1)

    second_shallow : (p : Term) (calls : List (List Call)) → IsWithin symbols p → Each (Each IsShallowCall) calls → Each IsShallowCall (second_side p calls)
    second_shallow p [] o w = tt
    second_shallow p (c ∷ calls) o w = each_append IsShallowCall (governed (not_term p) c) (all_calls calls) (governed_shallow (not_term p) c (denied_within p o) w.0) (all_shallow calls w.1)

    both_shallow : (p : Term) (calls : List (List Call)) → IsWithin symbols p → Each (Each IsShallowCall) calls → Each IsShallowCall (both_sides p calls)
    both_shallow p [] o w = tt
    both_shallow p (c ∷ calls) o w = each_append IsShallowCall (governed p c) (second_side p calls) (governed_shallow p c (shallow_within p o) w.0) (second_shallow p calls o w.1)

    if_shallow : (ts : List Term) (calls : List (List Call)) → Each (IsWithin symbols) ts → Each (Each IsShallowCall) calls → Each IsShallowCall (if_calls ts calls)
    if_shallow ts [] o w = tt
    if_shallow [] (c ∷ calls) o w = all_shallow (c ∷ calls) w
    if_shallow (p ∷ ts) (c ∷ calls) o w = each_append IsShallowCall c (both_sides p calls) w.0 (both_shallow p calls o.0 w.1)

    calls_shallow : (f : Name) (t : Term) (ts : List Term) (inner : List (List Call)) → Within t → Each (IsWithin symbols) ts → Each (Each IsShallowCall) inner → Each IsShallowCall (calls_with f t ts inner)
    calls_shallow f (Variable x) ts inner o os w = tt
    calls_shallow f (Function g) ts inner o os w =
        each_append IsShallowCall (own_call f g ts) (if bytes_eq g (codes "IF") then if_calls ts inner else all_calls inner) (own (bytes_eq f g)) (within (bytes_eq g (codes "IF")))
      where
        own : (same : Bool) → Each IsShallowCall (if same then record { tests = []; arguments = ts } ∷ [] else [])
        own true = (record { tests = tt; arguments = each_within ts os }, tt)
        own false = tt

        within : (same : Bool) → Each IsShallowCall (if same then if_calls ts inner else all_calls inner)
        within true = if_shallow ts inner os w
        within false = all_shallow inner w
    calls_shallow f (Applied t u) ts inner o os w = calls_shallow f t (u ∷ ts) (calls_with f u [] [] ∷ inner) o.0 (o.1.0, os) (calls_shallow f u [] [] o.1.1 tt tt, w)

  -- the number before comes from a number
  number_before : (b : Bool) (o : Option ℕ) (n : ℕ) → cond b (next_number o) None ≡ Some n → (m : ℕ) × (o ≡ Some m)
  number_before b None n e = absurd (no_number b e)
    where
      no_number : (b : Bool) → cond b None None ≡ Some n → ⊥
      no_number true e = cc
      no_number false e = cc
  number_before b (Some m) n e = (m, refl)

  numeral_within : (t : Term) (n k : ℕ) → number_of t ≡ Some n → Takes symbols t k → VariablesAre IsVariable t → Within t
  unfolding number_of
  numeral_within (Variable x) n k e o v = tt
  numeral_within (Function f) n k e o v = tt
  numeral_within (Applied (Variable x) u) n k e o v = absurd cc
  numeral_within (Applied (Applied s t) u) n k e o v = absurd cc
  numeral_within (Applied (Function f) u) n k e o v =
      let before = number_before (bytes_eq f (codes "ADD1")) (number_of u) n e in
      let one : depth_of u ≡ 1 = depth_of-number u before.0 before.1 in
      (tt, (record { of = record { over = o.1; variables = v.1 }; less = omega (arith, one) }, numeral_within u before.0 zero before.1 o.1 v.1))

  tree_left : (t u : Term) → tree_depth (Applied t u) ≤ body_depth → tree_depth t ≤ body_depth
  unfolding tree_depth
  tree_left t u d = omega (arith, d)

  tree_right : (t u : Term) → tree_depth (Applied t u) ≤ body_depth → depth_of u < body_depth
  unfolding tree_depth
  tree_right t u d = omega (arith, d)

  by_number : (u : Term) (o : Option ℕ) → number_of u ≡ o → Takes symbols u zero → VariablesAre IsVariable u → depth_of u ≤ body_depth → (tree_depth u ≤ body_depth → Within u) → Within u
  by_number u (Some n) e o v d rest = numeral_within u n zero e o v
  by_number u None e o v d rest = rest (subst (λ (n : Option ℕ). (if is_some n then 1 else tree_depth u) ≤ body_depth) e d)

  tree_within : (t : Term) (k : ℕ) → Takes symbols t k → VariablesAre IsVariable t → tree_depth t ≤ body_depth → Within t
  tree_within (Variable x) k o v d = tt
  tree_within (Function f) k o v d = tt
  tree_within (Applied t u) k o v d =
      let less : depth_of u < body_depth = tree_right t u d in
      let rest : tree_depth u ≤ body_depth → Within u = tree_within u zero o.1 v.1 in
      (tree_within t (suc k) o.0 v.0 (tree_left t u d), (record { of = record { over = o.1; variables = v.1 }; less = less }, by_number u (number_of u) refl o.1 v.1 (omega (arith, less)) rest))

  pub body_calls : IsAmong (codes "NOT", 1) symbols → (f : Name) (t : Term) → IsTermOf IsVariable symbols t → depth_of t ≤ body_depth → Each IsShallowCall (calls_of f t)
  body_calls here f t over d = calls_shallow here f t [] [] (by_number t (number_of t) refl over.over over.variables d (tree_within t zero over.over over.variables)) tt tt

-- terms without the function are over the others
pub shallow_without : (f : Name) (n : ℕ) (symbols : List Symbol) (t : Term) → mentions f t ≡ false → IsShallowTerm ((f, n) ∷ symbols) t → IsShallowTerm symbols t
shallow_without f n symbols t e w = record { of = record { over = without_function f n symbols t zero e w.of.over; variables = w.of.variables }; shallow = w.shallow }

older_shallow : (f : Name) (n : ℕ) (symbols : List Symbol) (tests : List Term) → Each (IsShallowTerm ((f, n) ∷ symbols)) tests → Each (IsShallowTerm symbols) (older_tests f tests)
older_shallow f n symbols [] w = tt
older_shallow f n symbols (t ∷ tests) w = by_test (mentions f t) refl (older_shallow f n symbols tests w.1)
  where
    by_test : (b : Bool) → mentions f t ≡ b → Each (IsShallowTerm symbols) (older_tests f tests) → Each (IsShallowTerm symbols) (if not b then t ∷ older_tests f tests else older_tests f tests)
    by_test true e rest = rest
    by_test false e rest = (shallow_without f n symbols t e w.0, rest)

beneath_counted : (h : History) (f : Name) (n : ℕ) (calls : List Call) → Each (IsShallowCall ((f, n) ∷ symbols_of h)) calls → Each (IsCounted h f n) (beneath f [] calls)
beneath_counted h f n [] w = tt
beneath_counted h f n (c ∷ calls) w = (record { tests = older_shallow f n (symbols_of h) c.tests w.0.tests; arguments = w.0.arguments }, beneath_counted h f n calls w.1)

-- the calls of a function within a body that is not too deep
pub calls_counted : (h : History) (f : Name) (n : ℕ) (body : Term) → IsTermOf IsVariable ((f, n) ∷ symbols_of h) body → depth_of body ≤ body_depth → Each (IsCounted h f n) (counted_calls f body)
calls_counted h f n body over d = beneath_counted h f n (calls_of f body) (body_calls ((f, n) ∷ symbols_of h) (inr (not_symbol h)) f body over d)

-- what stands in the place of a variable
pub value_shallow : (symbols : List Symbol) (xs : List Name) (ts : List Term) (x : Name) → IsShallowTerm symbols (Variable x) → Each (IsShallowTerm symbols) ts → IsShallowTerm symbols (value_at (matched xs ts) x)
value_shallow symbols [] ts x v w = v
value_shallow symbols (y ∷ xs) [] x v w = v
value_shallow symbols (y ∷ xs) (t ∷ ts) x v w = by_test (bytes_eq x y) (value_shallow symbols xs ts x v w.1)
  where
    by_test : (b : Bool) → IsShallowTerm symbols (value_at (matched xs ts) x) → IsShallowTerm symbols (if b then t else value_at (matched xs ts) x)
    by_test true rest = w.0
    by_test false rest = rest
