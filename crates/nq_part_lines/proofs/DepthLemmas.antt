-- How deep instances are.
use Rattle.std.proofs.Common.{◌≡◌, ◌≤◌, ◌+◌, ℕ, zero, suc, Bool, true, false, Option, Some, None, List, [], ◌∷◌, refl, ap, subst, arith}
use Rattle.std.specs.Prelude.{is_some, if◌then◌else◌, bytes_eq, codes}
use Rattle.nq_logic.specs.Terms.{Name, Symbol, Term, Variable, Function, Applied, Substitution, Takes, IsTerm, Each, value_at, substituted}
use Rattle.nq_logic.specs.Words.{numeral}
use Rattle.nq_logic.specs.Numerals.{number_of, is_numeral}
use Rattle.nq_logic.specs.Sizes.{depth_of, tree_depth}
use Rattle.nq_bank.proofs.Numerals.{numeral-number_of}
use Rattle.nq_proof.specs.Rules.{pair_terms}

numeral_closed : (s : Substitution) (n : ℕ) → substituted s (numeral n) ≡ numeral n
unfolding numeral
numeral_closed s zero = refl
numeral_closed s (suc n) = ap (Applied (Function (codes "ADD1"))) (numeral_closed s n)

number_closed : (s : Substitution) (t : Term) (o : Option ℕ) → number_of t ≡ o → is_some o ≡ true → substituted s t ≡ t
number_closed s t None e k = absurd cc
number_closed s t (Some n) e k = subst (λ u. substituted s u ≡ u) (numeral-number_of t n e) (numeral_closed s n)

value_shallow : (s : Substitution) (m : ℕ) → Each (λ u. depth_of u ≤ m) (pair_terms s) → 1 ≤ m → (x : Name) → depth_of (value_at s x) ≤ m
unfolding number_of tree_depth
value_shallow [] m all one x = one
value_shallow (b ∷ s) m all one x = by_name (bytes_eq x b.0) (value_shallow s m all.1 one x)
  where
    by_name : (same : Bool) → depth_of (value_at s x) ≤ m → depth_of (if same then b.1 else value_at s x) ≤ m
    by_name true rest = all.0
    by_name false rest = rest

some_depth : (t : Term) → 1 ≤ tree_depth t
unfolding tree_depth
some_depth (Variable x) = omega arith
some_depth (Function f) = omega arith
some_depth (Applied t u) = let rest = some_depth t in omega (arith, rest)

either_depth : (b : Bool) (d m : ℕ) → d ≤ m → 1 ≤ m → (if b then 1 else d) ≤ m
either_depth true d m h k = k
either_depth false d m h k = h

module _ (symbols : List Symbol) (s : Substitution) (m : ℕ) (all : Each (λ u. depth_of u ≤ m) (pair_terms s)) (one : 1 ≤ m) where
  -- what a head and an argument come to
  record Deepens (t : Term) : Type 0 where
    head : (n : ℕ) → Takes symbols t (suc n) → tree_depth (substituted s t) ≤ tree_depth t + m
    argument : Takes symbols t 0 → depth_of (substituted s t) ≤ depth_of t + m

  applied_depth : (t u : Term) → tree_depth (substituted s t) ≤ tree_depth t + m → depth_of (substituted s u) ≤ depth_of u + m → tree_depth (substituted s (Applied t u)) ≤ tree_depth (Applied t u) + m
  unfolding tree_depth
  applied_depth t u h k = omega (arith, h, k)

  applied_argument : (t u : Term) → tree_depth (substituted s (Applied t u)) ≤ tree_depth (Applied t u) + m → depth_of (substituted s (Applied t u)) ≤ depth_of (Applied t u) + m
  applied_argument t u h = by_number (is_numeral (Applied t u)) refl
    where
      by_number : (b : Bool) → is_numeral (Applied t u) ≡ b → depth_of (substituted s (Applied t u)) ≤ depth_of (Applied t u) + m
      by_number true e =
          let same : substituted s (Applied t u) ≡ Applied t u = number_closed s (Applied t u) (number_of (Applied t u)) refl e in
          let here : depth_of (substituted s (Applied t u)) ≡ depth_of (Applied t u) = ap depth_of same in
          omega (arith, here)
      by_number false e =
          let some = some_depth (Applied t u) in
          let here : depth_of (Applied t u) ≡ tree_depth (Applied t u) = ap (λ b. if b then 1 else tree_depth (Applied t u)) e in
          let few : depth_of (substituted s (Applied t u)) ≤ tree_depth (Applied t u) + m = either_depth (is_numeral (substituted s (Applied t u))) (tree_depth (substituted s (Applied t u))) (tree_depth (Applied t u) + m) h (omega (arith, some)) in
          omega (arith, here, few)

  deepens : (t : Term) → Deepens t
  unfolding number_of tree_depth
  deepens (Variable x) = record { head = λ n o. absurd o; argument = λ o. let few : depth_of (value_at s x) ≤ m = value_shallow s m all one x in omega (arith, few) }
  deepens (Function f) = record { head = λ n o. omega arith; argument = λ o. omega arith }
  deepens (Applied t u) =
      let rest = deepens t in
      let part = deepens u in
      record {
        head = λ n o. applied_depth t u (rest.head (suc n) o.0) (part.argument o.1);
        argument = λ o. applied_argument t u (applied_depth t u (rest.head 0 o.0) (part.argument o.1));
      }

  -- an instance is no deeper than the term and the deepest value together
  pub instance_depth : (t : Term) → IsTerm symbols t → depth_of (substituted s t) ≤ depth_of t + m
  instance_depth t o = (deepens t).argument o
