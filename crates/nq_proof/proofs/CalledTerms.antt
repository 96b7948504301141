-- The calls within a term that is over symbols, with the tests that govern them, and terms without a function.
use Rattle.std.proofs.Common.{◌≡◌, Bool, true, false, ℕ, zero, suc, List, [], ◌∷◌, ◌||◌, map, if◌then◌else◌, inl, inr, refl, sym, ap}
use Rattle.std.specs.Prelude.{bytes_eq, codes, not, filter}
use Rattle.std.proofs.lemmas.Slice.Eq.{bytes_eq-Decides}
use Rattle.nq_logic.specs.Terms.{Name, Term, Variable, Function, Applied, Symbol, Takes, IsTerm, IsAmong, Each}
use Rattle.nq_logic.specs.Words.{not_term}
use Rattle.nq_logic.specs.Admissible.{mentions, Call, governed, all_calls, second_side, both_sides, if_calls, own_call, calls_with, denied_tests}
use Rattle.nq_logic.proofs.Lists.{each_append}

true_is_not_false : (b : Bool) → b ≡ true → b ≡ false → ⊥
true_is_not_false true e f = cc
true_is_not_false false e f = cc

-- terms without the function f are over the other symbols
pub without_function : (f : Name) (n : ℕ) (symbols : List Symbol) (t : Term) (k : ℕ) → mentions f t ≡ false → Takes ((f, n) ∷ symbols) t k → Takes symbols t k
without_function f n symbols (Variable x) zero e o = tt
without_function f n symbols (Variable x) (suc k) e o = absurd o
without_function f n symbols (Function g) k e (inl same) = absurd (true_is_not_false (bytes_eq f g) ((bytes_eq-Decides f g).1 (sym (ap (λ (s : Symbol). s.0) same))) e)
without_function f n symbols (Function g) k e (inr m) = m
without_function f n symbols (Applied t u) k e o =
    (without_function f n symbols t (suc k) (left (mentions f t) (mentions f u) e) o.0, without_function f n symbols u zero (right (mentions f t) (mentions f u) e) o.1)
  where
    left : (a b : Bool) → a || b ≡ false → a ≡ false
    left true b e = absurd cc
    left false b e = refl

    right : (a b : Bool) → a || b ≡ false → b ≡ false
    right true b e = absurd cc
    right false b e = e

module _ (symbols : List Symbol) where
  -- the tests and arguments of the calls within a term are over its symbols
  pub record CallOver (c : Call) : Type 0 where
    pub tests : Each (IsTerm symbols) c.tests
    pub arguments : Each (IsTerm symbols) c.arguments

  all_over : (calls : List (List Call)) → Each (Each CallOver) calls → Each CallOver (all_calls calls)
  all_over [] over = tt
  all_over (c ∷ calls) over = each_append CallOver c (all_calls calls) over.0 (all_over calls over.1)

  governed_over : (p : Term) (calls : List Call) → IsTerm symbols p → Each CallOver calls → Each CallOver (governed p calls)
  governed_over p [] o over = tt
  governed_over p (c ∷ calls) o over = (record { tests = (o, over.0.tests); arguments = over.0.arguments }, governed_over p calls o over.1)

  module _ (not_here : IsAmong (codes "NOT", 1) symbols) where
    second_over : (p : Term) (calls : List (List Call)) → IsTerm symbols p → Each (Each CallOver) calls → Each CallOver (second_side p calls)
    second_over p [] o over = tt
    second_over p (c ∷ calls) o over = each_append CallOver (governed (not_term p) c) (all_calls calls) (governed_over (not_term p) c (not_here, o) over.0) (all_over calls over.1)

    both_over : (p : Term) (calls : List (List Call)) → IsTerm symbols p → Each (Each CallOver) calls → Each CallOver (both_sides p calls)
    both_over p [] o over = tt
    both_over p (c ∷ calls) o over = each_append CallOver (governed p c) (second_side p calls) (governed_over p c o over.0) (second_over p calls o over.1)

    if_over : (ts : List Term) (calls : List (List Call)) → Each (IsTerm symbols) ts → Each (Each CallOver) calls → Each CallOver (if_calls ts calls)
    if_over ts [] o over = tt
    if_over [] (c ∷ calls) o over = all_over (c ∷ calls) over
    if_over (p ∷ ts) (c ∷ calls) o over = each_append CallOver c (both_sides p calls) over.0 (both_over p calls o.0 over.1)

    pub calls_over : (f : Name) (t : Term) (n : ℕ) (ts : List Term) (inner : List (List Call)) → Takes symbols t n → Each (IsTerm symbols) ts → Each (Each CallOver) inner → Each CallOver (calls_with f t ts inner)
    calls_over f (Variable x) n ts inner o os over = tt
    calls_over f (Function g) n ts inner o os over =
        each_append CallOver (own_call f g ts) (if bytes_eq g (codes "IF") then if_calls ts inner else all_calls inner) (own (bytes_eq f g)) (within (bytes_eq g (codes "IF")))
      where
        own : (same : Bool) → Each CallOver (if same then record { tests = []; arguments = ts } ∷ [] else [])
        own true = (record { tests = tt; arguments = os }, tt)
        own false = tt

        within : (same : Bool) → Each CallOver (if same then if_calls ts inner else all_calls inner)
        within true = if_over ts inner os over
        within false = all_over inner over
    calls_over f (Applied t u) n ts inner o os over = calls_over f t (suc n) (u ∷ ts) (calls_with f u [] [] ∷ inner) o.0 (o.1, os) (calls_over f u zero [] [] o.1 tt tt, over)

-- the tests that do not mention the function, each denied
pub denied_over : (f : Name) (n : ℕ) (symbols : List Symbol) → IsAmong (codes "NOT", 1) symbols → (tests : List Term) → Each (IsTerm ((f, n) ∷ symbols)) tests → Each (IsTerm symbols) (denied_tests f tests)
denied_over f n symbols not_here [] over = tt
denied_over f n symbols not_here (t ∷ tests) over = by_test (mentions f t) refl (denied_over f n symbols not_here tests over.1)
  where
    by_test : (b : Bool) → mentions f t ≡ b → Each (IsTerm symbols) (denied_tests f tests) →
        Each (IsTerm symbols) (map not_term (if not b then t ∷ filter (λ t. not (mentions f t)) tests else filter (λ t. not (mentions f t)) tests))
    by_test true e rest = rest
    by_test false e rest = ((not_here, without_function f n symbols t zero e over.0), rest)
