-- What a candidate of FERT says, and what stands where one term is replaced everywhere.
use Rattle.std.proofs.Common.{◌≡◌, ◌<◌, ℕ, zero, suc, Bool, true, false, ◌&&◌, ◌||◌, not, Option, Some, None, List, [], ◌∷◌, refl, sym, ap, ◌∙◌, subst, inl, inr, arith}
use Rattle.std.specs.Prelude.{codes}
use Rattle.nq_logic.specs.Terms.{Term, Variable, Function, Applied, IsAmong}
use Rattle.nq_logic.specs.Numerals.{numeral_limit}
use Rattle.nq_logic.specs.Words.{not_term, equal_term, numeral}
use Rattle.nq_logic.specs.Values.{is_value}
use Rattle.nq_logic.specs.RuleShapes.{is_call}
use Rattle.nq_bank.proofs.Numerals.{is_value-number, number_of-numeral}
use Rattle.nq_proof.specs.Clauses.{Clause, same_term, without}
use Rattle.nq_proof.proofs.Tests.{same_true}
use Rattle.nq_goals.specs.Equations.{Equation, readings, both_orders, hypothesis_equation}
use Rattle.nq_goals.specs.Replacing.{stands_in, stands_within, stands_in_one, IsReplaced, IsReplacedWithin, IsReplacedOnce, IsReplacedOnceWithin, exchanged, exchanged_within, exchanged_for}
use Rattle.nq_goals.specs.Fertilizing.{Fertilizing, can_fertilize, from_readings, from_literals}
use Rattle.nq_moves.specs.Back.{Denies}
use Rattle.nq_moves.proofs.CandidateLemmas.{hypothesis_is, either_list}

and_first : (a b : Bool) → (a && b) ≡ true → a ≡ true
and_first true b e = refl
and_first false b e = absurd cc

and_second : (a b : Bool) → (a && b) ≡ true → b ≡ true
and_second true b e = e
and_second false b e = absurd cc

not_true : (b : Bool) → not b ≡ true → b ≡ false
not_true true e = absurd cc
not_true false e = refl

-- what a candidate says
pub record IsFertile (goal : Clause) (c : Clause) (f : Fertilizing) : Type 0 where
  pub among : IsAmong f.literal c
  pub denies : Denies f.literal f.into f.from
  pub no_value : is_value f.from ≡ false
  pub stands : stands_in_one f.from (without f.literal goal) ≡ true

record OfReading (goal : Clause) (l : Term) (es : List Equation) (f : Fertilizing) : Type 0 where
  equation : Equation
  among : IsAmong equation es
  can : can_fertilize goal l equation ≡ true
  is : f ≡ record { literal = l; from = equation.left; into = equation.right }

of_list : (goal : Clause) (l : Term) (es : List Equation) (f : Fertilizing) → IsAmong f (from_readings goal l es) → OfReading goal l es f
of_list goal l [] f m = absurd m
of_list goal l (e ∷ es) f m = by_test (λ k. later (of_list goal l es f k)) (can_fertilize goal l e) refl m
  where
    later : OfReading goal l es f → OfReading goal l (e ∷ es) f
    later o = record { equation = o.equation; among = inr o.among; can = o.can; is = o.is }

    by_test : (IsAmong f (from_readings goal l es) → OfReading goal l (e ∷ es) f) → (b : Bool) → can_fertilize goal l e ≡ b → IsAmong f (elim b as (λ b. List Fertilizing) [ true ↦ record { literal = l; from = e.left; into = e.right } ∷ from_readings goal l es | false ↦ from_readings goal l es ]) → OfReading goal l (e ∷ es) f
    by_test again true k (inl is) = record { equation = e; among = inl refl; can = k; is = is }
    by_test again true k (inr r) = again r
    by_test again false k r = again r

denies_by : (l : Term) (o : Option Equation) (e : Equation) → hypothesis_equation l ≡ o → IsAmong e (both_orders o) → Denies l e.right e.left
denies_by l None e is m = absurd m
denies_by l (Some q) e is (inl same) = inr (hypothesis_is l q is ∙ ap (λ (x : Equation). not_term (equal_term x.left x.right)) (sym same))
denies_by l (Some q) e is (inr (inl same)) = inl (hypothesis_is l q is ∙ ap (λ (x : Equation). not_term (equal_term x.right x.left)) (sym same))
denies_by l (Some q) e is (inr (inr none)) = absurd none

fertile_one : (goal : Clause) (l : Term) (f : Fertilizing) → OfReading goal l (readings l) f → IsFertile goal (l ∷ []) f
fertile_one goal l f o =
    let e : Equation = o.equation in
    let tests = o.can in
    let two = and_first (is_call e.left && not (is_value e.left)) (stands_in_one e.left (without l goal)) tests in
    let whole : IsFertile goal (l ∷ []) (record { literal = l; from = e.left; into = e.right }) = record {
      among = inl refl;
      denies = denies_by l (hypothesis_equation l) e refl o.among;
      no_value = not_true (is_value e.left) (and_second (is_call e.left) (not (is_value e.left)) two);
      stands = and_second (is_call e.left && not (is_value e.left)) (stands_in_one e.left (without l goal)) tests;
    } in
    subst (IsFertile goal (l ∷ [])) (sym o.is) whole

pub fertile : (goal c : Clause) (f : Fertilizing) → IsAmong f (from_literals goal c) → IsFertile goal c f
fertile goal [] f m = absurd m
fertile goal (l ∷ c) f m =
    elim (either_list f (from_readings goal l (readings l)) (from_literals goal c) m) [
      | inl k ↦ (
          let q = fertile_one goal l f (of_list goal l (readings l) f k) in
          record { among = elim q.among [ inl e ↦ inl e | inr none ↦ absurd none ]; denies = q.denies; no_value = q.no_value; stands = q.stands }
          )
      | inr k ↦ (
          let q = fertile goal c f k in
          record { among = inr q.among; denies = q.denies; no_value = q.no_value; stands = q.stands }
          )
    ]

-- a term that is no value stands in no numeral
no_both : (b : Bool) → b ≡ true → b ≡ false → ⊥
no_both true h k = absurd cc
no_both false h k = absurd cc

pub no_numeral_same : (a : Term) (n : ℕ) → is_value a ≡ false → n < numeral_limit → same_term a (numeral n) ≡ false
no_numeral_same a n other small = by_test (same_term a (numeral n)) refl
  where
    by_test : (b : Bool) → same_term a (numeral n) ≡ b → same_term a (numeral n) ≡ false
    by_test false e = e
    by_test true e = absurd (no_both (is_value a) (ap is_value (same_true a (numeral n) e) ∙ is_value-number (numeral n) n (number_of-numeral n small)) other)

for_other : (a b t other : Term) → same_term a t ≡ false → exchanged_for ((a, b) ∷ []) t other ≡ other
for_other a b t other e = ap (λ x. elim x as (λ x. Term) [ true ↦ b | false ↦ other ]) e

numeral_within : (a b : Term) (n : ℕ) → is_value a ≡ false → n < numeral_limit → exchanged_within ((a, b) ∷ []) (numeral n) ≡ numeral n
unfolding numeral
numeral_within a b zero other small = refl
numeral_within a b (suc n) other small =
    let less : n < numeral_limit = omega (arith, small) in
    ap (Applied (Function (codes "ADD1"))) (for_other a b (numeral n) (exchanged_within ((a, b) ∷ []) (numeral n)) (no_numeral_same a n other less) ∙ numeral_within a b n other less)

pub numeral_stays : (a b : Term) (n : ℕ) → is_value a ≡ false → n < numeral_limit → exchanged ((a, b) ∷ []) (numeral n) ≡ numeral n
numeral_stays a b n other small = for_other a b (numeral n) (exchanged_within ((a, b) ∷ []) (numeral n)) (no_numeral_same a n other small) ∙ numeral_within a b n other small

-- everywhere is at some places
module _ (a b : Term) where
  picked : (t : Term) (w : Bool) → same_term a t ≡ w → IsReplacedWithin a b t (exchanged_within ((a, b) ∷ []) t) → IsReplaced a b t (exchanged ((a, b) ∷ []) t)
  picked t true e within = inl (sym (same_true a t e), ap (λ x. elim x as (λ x. Term) [ true ↦ b | false ↦ exchanged_within ((a, b) ∷ []) t ]) e)
  picked t false e within = inr (subst (IsReplacedWithin a b t) (sym (for_other a b t (exchanged_within ((a, b) ∷ []) t) e)) within)

  within_everywhere : (t : Term) → IsReplacedWithin a b t (exchanged_within ((a, b) ∷ []) t)
  within_everywhere (Variable x) = refl
  within_everywhere (Function f) = refl
  within_everywhere (Applied t u) = (within_everywhere t, picked u (same_term a u) refl (within_everywhere u))

  pub everywhere : (t : Term) → IsReplaced a b t (exchanged ((a, b) ∷ []) t)
  everywhere t = picked t (same_term a t) refl (within_everywhere t)

  picked_once : (t : Term) (w : Bool) → same_term a t ≡ w → (stands_within a t ≡ true → IsReplacedOnceWithin a b t (exchanged_within ((a, b) ∷ []) t)) → (w || stands_within a t) ≡ true → IsReplacedOnce a b t (exchanged ((a, b) ∷ []) t)
  picked_once t true e once k = inl (sym (same_true a t e), ap (λ x. elim x as (λ x. Term) [ true ↦ b | false ↦ exchanged_within ((a, b) ∷ []) t ]) e)
  picked_once t false e once k = inr (subst (IsReplacedOnceWithin a b t) (sym (for_other a b t (exchanged_within ((a, b) ∷ []) t) e)) (once k))

  once_of : (t u : Term) (w : Bool) → stands_within a t ≡ w → (stands_within a t ≡ true → IsReplacedOnceWithin a b t (exchanged_within ((a, b) ∷ []) t)) → (stands_within a u ≡ true → IsReplacedOnceWithin a b u (exchanged_within ((a, b) ∷ []) u)) → (w || (same_term a u || stands_within a u)) ≡ true → IsReplacedOnceWithin a b (Applied t u) (exchanged_within ((a, b) ∷ []) (Applied t u))
  once_of t u true e left right k = inl (left e, everywhere u)
  once_of t u false e left right k = inr (within_everywhere t, picked_once u (same_term a u) refl right k)

  once_within : (t : Term) → stands_within a t ≡ true → IsReplacedOnceWithin a b t (exchanged_within ((a, b) ∷ []) t)
  once_within (Variable x) k = absurd cc
  once_within (Function f) k = absurd cc
  once_within (Applied t u) k = once_of t u (stands_within a t) refl (once_within t) (once_within u) k

  pub once_in : (t : Term) → stands_in a t ≡ true → IsReplacedOnce a b t (exchanged ((a, b) ∷ []) t)
  once_in t k = picked_once t (same_term a t) refl (once_within t) k
