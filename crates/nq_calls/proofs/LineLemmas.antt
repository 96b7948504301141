-- Literals that may stand in the line of a call.
use Rattle.std.proofs.Common.{◌≡◌, ℕ, suc, ◌+◌, ◌<◌, ◌≤◌, Bool, true, false, ◌||◌, ◌&&◌, Option, Some, None, List, length, get_or, drop, drop-cons, map, refl, sym, ap, ◌∙◌, arith}
use Rattle.std.specs.Prelude.{bytes_eq, codes}
use Rattle.std.proofs.lemmas.List.{at_drop_all}
use Rattle.nq_logic.specs.Terms.{Term, Variable, Function, Applied}
use Rattle.nq_logic.specs.Words.{not_term}
use Rattle.nq_bank.specs.Content.{Content}
use Rattle.nq_bank.proofs.Texts.{same_test}
use Rattle.nq_proof.specs.Clauses.{same_term, has_term}
use Rattle.nq_proof.specs.Paths.{under_not, under_two_nots, under_twice}
use Rattle.nq_proof.proofs.Tests.{same_true}
use Rattle.nq_rule.proofs.ClauseLemmas.{same_term-sym, or_false}
use Rattle.nq_calls.specs.declared.calls.Guard.{Guard}
use Rattle.nq_calls.specs.Calls.{guard_at, guards_at}

and_true : (b : Bool) → (b && true) ≡ b
and_true true = refl
and_true false = refl

-- what is told of one test and one literal
pub one_opposite : (t u : Term) (b : Bool) → b ≡ ((same_term (not_term t) u || false) || false) → b ≡ same_term u (not_term t)
one_opposite t u b e = e ∙ or_false (same_term (not_term t) u || false) ∙ or_false (same_term (not_term t) u) ∙ same_term-sym (not_term t) u

-- whether t is the term that was found
abbrev pub same_under : Term → Option Term → Bool
same_under t None = false
same_under t (Some u) = same_term t u

same_under-not : (t u : Term) → same_under t (under_not u) ≡ same_term (not_term t) u
same_under-not t (Variable x) = refl
same_under-not t (Function f) = refl
same_under-not t (Applied (Variable x) v) = refl
same_under-not t (Applied (Function f) v) = by_test (bytes_eq (codes "NOT") f)
  where
    by_test : (b : Bool) → same_under t (elim b as (λ b. Option Term) [ true ↦ Some v | false ↦ None ]) ≡ elim b as (λ b. Bool) [ true ↦ same_term t v | false ↦ false ]
    by_test true = refl
    by_test false = refl
same_under-not t (Applied (Applied u w) v) = refl

under_two : (t u : Term) → same_under t (under_two_nots u) ≡ same_term (not_term (not_term t)) u
under_two t u = by_option (under_not u) ∙ same_under-not (not_term t) u
  where
    by_option : (o : Option Term) → same_under t (under_twice o) ≡ same_under (not_term t) o
    by_option None = refl
    by_option (Some v) = same_under-not t v

-- the literal is the NOT of the NOT of the test, where the test is what stands under its NOTs
pub denied_twice : (t u : Term) (found : Option Term) (b : Bool) → found ≡ under_two_nots u → b ≡ same_under t found → b ≡ same_term u (not_term (not_term t))
denied_twice t u found b is e = e ∙ ap (same_under t) is ∙ under_two t u ∙ same_term-sym (not_term (not_term t)) u

-- no term is its own NOT
abbrev count : Term → ℕ
count (Variable x) = 0
count (Function f) = 0
count (Applied t u) = suc (count t + count u)

not_own : (t : Term) → t ≡ not_term t → ⊥
not_own t e = let h : count t ≡ suc (0 + count t) = ap count e in omega (arith, h)

pub no_own_denial : (t : Term) → same_term t (not_term t) ≡ false
no_own_denial t = sym (same_test false (same_term t (not_term t)) (λ k. absurd (no_truth k)) (λ k. absurd (not_own t (same_true t (not_term t) k))))
  where
    no_truth : false ≡ true → ⊥
    no_truth k = cc

-- so it is the fall that is told
pub fall_alone : (t fall : Term) (b : Bool) → b ≡ ((same_term t (not_term t) || (same_term t fall || false)) && true) → b ≡ same_term t fall
fall_alone t fall b e = e ∙ and_true (same_term t (not_term t) || (same_term t fall || false)) ∙ ap (λ a. a || (same_term t fall || false)) (no_own_denial t) ∙ or_false (same_term t fall)

-- the literal is the NOT of a test
module _ (bank : Content) (guards : List Guard) (l : Term) where
  abbrev pub denied_from : ℕ → Bool
  denied_from i = has_term l (map not_term (guards_at bank (drop i guards)))

  at_place : (i : ℕ) (d : Guard) → i < length guards → denied_from i ≡ (same_term l (not_term (guard_at bank (get_or guards i d))) || denied_from (suc i))
  at_place i d below = ap (λ gs. has_term l (map not_term (guards_at bank gs))) (drop-cons guards i d below)

  pub denied_here : (i : ℕ) (d : Guard) → i < length guards → true ≡ same_term l (not_term (guard_at bank (get_or guards i d))) → denied_from i ≡ denied_from 0 → true ≡ denied_from 0
  denied_here i d below here so_far = ap (λ b. b || denied_from (suc i)) here ∙ sym (at_place i d below) ∙ so_far

  pub not_denied_here : (i : ℕ) (d : Guard) → i < length guards → false ≡ same_term l (not_term (guard_at bank (get_or guards i d))) → denied_from i ≡ denied_from 0 → denied_from (suc i) ≡ denied_from 0
  not_denied_here i d below here so_far = ap (λ b. b || denied_from (suc i)) here ∙ sym (at_place i d below) ∙ so_far

  pub none_denied : (i : ℕ) → length guards ≤ i → denied_from i ≡ denied_from 0 → false ≡ denied_from 0
  none_denied i past so_far = sym (at_drop_all (λ gs. has_term l (map not_term (guards_at bank gs))) guards i past) ∙ so_far
