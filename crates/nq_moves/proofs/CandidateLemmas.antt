-- Which literals are candidates.
use Rattle.std.proofs.Common.{◌≡◌, ◌⊎◌, Bool, true, false, Option, Some, None, List, [], ◌∷◌, ◌++◌, refl, sym, ap, ◌∙◌, subst, inl, inr, if◌then◌else◌}
use Rattle.nq_logic.specs.Terms.{Term, Variable, Function, Applied, IsAmong}
use Rattle.nq_logic.specs.Words.{not_term, equal_term}
use Rattle.nq_bank.specs.Parts.{occurs}
use Rattle.nq_proof.specs.Clauses.{Clause}
use Rattle.nq_proof.specs.Paths.{is_function, under_not}
use Rattle.nq_proof.proofs.Places.{function_is}
use Rattle.nq_proof.proofs.Tests.{chosen_some, none_is_not_some, some_same}
use Rattle.nq_goals.specs.Equations.{Equation, equation_of, equation_under, hypothesis_equation, both_orders, readings}
use Rattle.nq_goals.specs.Substituting.{Substituting, from_sides, from_readings, from_literals, substitutions_of}
use Rattle.nq_moves.specs.Laws.{IsEquation}

under_not_is : (a t : Term) → under_not a ≡ Some t → a ≡ not_term t
under_not_is (Variable x) t e = absurd cc
under_not_is (Function f) t e = absurd cc
under_not_is (Applied f u) t e = by_test (chosen_some (is_function "NOT" f) (Some u) None t e)
  where
    by_test : ((is_function "NOT" f ≡ true) × (Some u ≡ Some t)) ⊎ (None ≡ Some t) → Applied f u ≡ not_term t
    by_test (inl q) = ap (λ g. Applied g u) (function_is "NOT" f q.0) ∙ ap not_term (some_same u t q.1)
    by_test (inr q) = absurd (none_is_not_some t q)

equation_is : (a : Term) (e : Equation) → equation_of a ≡ Some e → a ≡ equal_term e.left e.right
equation_is (Variable x) e k = absurd cc
equation_is (Function f) e k = absurd cc
equation_is (Applied (Variable x) b) e k = absurd cc
equation_is (Applied (Function f) b) e k = absurd cc
equation_is (Applied (Applied f a) b) e k = by_test (chosen_some (is_function "EQUAL" f) (Some (record { left = a; right = b })) None e k)
  where
    by_test : ((is_function "EQUAL" f ≡ true) × (Some (record { left = a; right = b }) ≡ Some e)) ⊎ (None ≡ Some e) → Applied (Applied f a) b ≡ equal_term e.left e.right
    by_test (inl q) =
        subst (λ (sides : Equation). Applied (Applied f a) b ≡ equal_term sides.left sides.right) (some_same (record { left = a; right = b }) e q.1)
        (ap (λ g. Applied (Applied g a) b) (function_is "EQUAL" f q.0))
    by_test (inr q) = absurd (none_is_not_some e q)

pub hypothesis_is : (l : Term) (e : Equation) → hypothesis_equation l ≡ Some e → l ≡ not_term (equal_term e.left e.right)
hypothesis_is l e k = by_first (under_not l) refl k
  where
    by_first : (o : Option Term) → under_not l ≡ o → equation_under o ≡ Some e → l ≡ not_term (equal_term e.left e.right)
    by_first None f g = absurd (none_is_not_some e g)
    by_first (Some t) f g = under_not_is l t f ∙ ap not_term (equation_is t e g)

pub either_list : {X : Type 0} (x : X) (xs ys : List X) → IsAmong x (xs ++ ys) → IsAmong x xs ⊎ IsAmong x ys
either_list x [] ys m = inr m
either_list x (y ∷ xs) ys (inl e) = inl (inl e)
either_list x (y ∷ xs) ys (inr m) = elim (either_list x xs ys m) [ inl k ↦ inl (inr k) | inr k ↦ inr k ]

-- the literal, the variable and the term of what the sides of an equation give
record OfSides (l a b : Term) (s : Substituting) : Type 0 where
  literal : s.literal ≡ l
  left : a ≡ Variable s.variable
  right : b ≡ s.term
  apart : occurs s.variable s.term ≡ false

of_sides : (l a b : Term) (s : Substituting) → IsAmong s (from_sides l a b) → OfSides l a b s
of_sides l (Variable v) b s m = by_test (occurs v b) refl m
  where
    by_test : (o : Bool) → occurs v b ≡ o → IsAmong s (if o then [] else record { literal = l; variable = v; term = b } ∷ []) → OfSides l (Variable v) b s
    by_test true e m = absurd m
    by_test false e (inl is) = subst (OfSides l (Variable v) b) (sym is) (record { literal = refl; left = refl; right = refl; apart = e })
    by_test false e (inr m) = absurd m
of_sides l (Function f) b s m = absurd m
of_sides l (Applied f u) b s m = absurd m

of_reading : (l : Term) (o : Option Equation) (s : Substituting) → hypothesis_equation l ≡ o → IsAmong s (from_readings l (both_orders o)) → IsEquation (l ∷ []) s
of_reading l None s is m = absurd m
of_reading l (Some e) s is m =
    let denies = hypothesis_is l e is in
    elim (either_list s (from_sides l e.left e.right) (from_sides l e.right e.left ++ []) m) [
      | inl k ↦ (
          let o = of_sides l e.left e.right s k in
          record { among = inl o.literal; reads = inl (o.literal ∙ denies ∙ ap (λ t. not_term (equal_term t e.right)) o.left ∙ ap (λ t. not_term (equal_term (Variable s.variable) t)) o.right); apart = o.apart }
          )
      | inr k ↦ elim (either_list s (from_sides l e.right e.left) [] k) [
        | inl q ↦ (
            let o = of_sides l e.right e.left s q in
            record { among = inl o.literal; reads = inr (o.literal ∙ denies ∙ ap (λ t. not_term (equal_term e.left t)) o.left ∙ ap (λ t. not_term (equal_term t (Variable s.variable))) o.right); apart = o.apart }
            )
        | inr none ↦ absurd none
      ]
    ]

pub candidate_is : (goal : Clause) (s : Substituting) → IsAmong s (substitutions_of goal) → IsEquation goal s
candidate_is [] s m = absurd m
candidate_is (l ∷ c) s m =
    elim (either_list s (from_readings l (readings l)) (from_literals c) m) [
      | inl k ↦ (
          let q = of_reading l (hypothesis_equation l) s refl k in
          record { among = elim q.among [ inl e ↦ inl e | inr none ↦ absurd none ]; reads = q.reads; apart = q.apart }
          )
      | inr k ↦ (
          let q = candidate_is c s k in
          record { among = inr q.among; reads = q.reads; apart = q.apart }
          )
    ]
