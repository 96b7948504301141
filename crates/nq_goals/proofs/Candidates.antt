-- Tests by which a goal has no candidate of ELIM.
use Rattle.std.proofs.Common.{◌≡◌, Bool, true, false, ◌&&◌, ◌||◌, ◌⊎◌, List, [], ◌∷◌, ◌++◌, map, refl, sym, subst, inl, inr}
use Rattle.std.specs.List.{list_any, list_all}
use Rattle.nq_logic.specs.Terms.{Term, Variable, Function, Applied, IsAmong, Substitution, substituted}
use Rattle.nq_logic.specs.Histories.{History}
use Rattle.nq_logic.specs.RuleShapes.{inner_terms}
use Rattle.nq_logic.proofs.Lists.{among_left, among_right}
use Rattle.nq_proof.specs.Clauses.{Clause, same_term}
use Rattle.nq_proof.proofs.Tests.{same_true}
use Rattle.nq_events.specs.Events.{Hints}
use Rattle.nq_goals.specs.Replacing.{parts_in, parts_in_all, stands_in, stands_in_one, stands_within}
use Rattle.nq_goals.specs.Eliminating.{ElimRule, Eliminating, EliminateCandidate, elim_rules, destructors, destructors_of, one_stands, renaming_of}

-- where a test holds of none, it holds of no element
either_false : (a b : Bool) → (a || b) ≡ false → a ≡ true → ⊥
either_false true b e f = cc
either_false false b e f = cc

or_false : (a b : Bool) → (a || b) ≡ false → b ≡ false
or_false true b e = cc
or_false false b e = e

pub none_among : {X : Type 0} (test : X → Bool) (x : X) (xs : List X) → list_any test xs ≡ false → IsAmong x xs → test x ≡ true → ⊥
none_among test x [] e m t = absurd m
none_among test x (y ∷ xs) e (inl i) t = either_false (test y) (list_any test xs) e (subst (λ z. test z ≡ true) i t)
none_among test x (y ∷ xs) e (inr m) t = none_among test x xs (or_false (test y) (list_any test xs) e) m t

-- a function of one argument is called
abbrev pub is_unary : Term → Bool
is_unary (Variable x) = false
is_unary (Function f) = false
is_unary (Applied (Variable x) u) = false
is_unary (Applied (Function f) u) = true
is_unary (Applied (Applied f t) u) = false

unary_instance : (s : Substitution) (t : Term) → is_unary t ≡ true → is_unary (substituted s t) ≡ true
unary_instance s (Variable x) e = cc
unary_instance s (Function f) e = cc
unary_instance s (Applied (Variable x) u) e = cc
unary_instance s (Applied (Function f) u) e = refl
unary_instance s (Applied (Applied f t) u) e = cc

abbrev pub have_unary : List ElimRule → Bool
have_unary [] = true
have_unary (rule ∷ rules) = list_all is_unary (destructors rule) && have_unary rules

and_first : (a b : Bool) → (a && b) ≡ true → a ≡ true
and_first true b e = refl
and_first false b e = e

and_second : (a b : Bool) → (a && b) ≡ true → b ≡ true
and_second true b e = e
and_second false b e = cc

rule_unary : (rule : ElimRule) (rules : List ElimRule) → have_unary rules ≡ true → IsAmong rule rules → list_all is_unary (destructors rule) ≡ true
rule_unary rule [] e m = absurd m
rule_unary rule (r ∷ rules) e (inl i) = subst (λ z. list_all is_unary (destructors z) ≡ true) (sym i) (and_first (list_all is_unary (destructors r)) (have_unary rules) e)
rule_unary rule (r ∷ rules) e (inr m) = rule_unary rule rules (and_second (list_all is_unary (destructors r)) (have_unary rules) e) m

found_unary : (s : Substitution) (t : Term) (ts : List Term) → list_all is_unary ts ≡ true → IsAmong t (map (substituted s) ts) → is_unary t ≡ true
found_unary s t [] e m = absurd m
found_unary s t (u ∷ ts) e (inl i) = subst (λ z. is_unary z ≡ true) (sym i) (unary_instance s u (and_first (is_unary u) (list_all is_unary ts) e))
found_unary s t (u ∷ ts) e (inr m) = found_unary s t ts (and_second (is_unary u) (list_all is_unary ts) e) m

or_cases : (a b : Bool) → (a || b) ≡ true → (a ≡ true) ⊎ (b ≡ true)
or_cases true b e = inl refl
or_cases false b e = inr e

of_either : {A B C : Type 0} → (A → C) → (B → C) → A ⊎ B → C
of_either f g (inl a) = f a
of_either f g (inr b) = g b

-- what stands in a term is one of its parts
within_parts : (a t : Term) → stands_within a t ≡ true → IsAmong a (inner_terms t)
within_parts a (Variable x) e = cc
within_parts a (Function f) e = cc
within_parts a (Applied t u) e =
    of_either (λ w. among_left a (inner_terms t) (u ∷ inner_terms u) (within_parts a t w))
    (λ w.
    of_either (λ i. among_right a (inner_terms t) (u ∷ inner_terms u) (inl (same_true a u i)))
    (λ v. among_right a (inner_terms t) (u ∷ inner_terms u) (inr (within_parts a u v))) (or_cases (same_term a u) (stands_within a u) w))
    (or_cases (stands_within a t) (same_term a u || stands_within a u) e)

parts_found : (a t : Term) → stands_in a t ≡ true → IsAmong a (parts_in t)
parts_found a t e = of_either (λ i. inl (same_true a t i)) (λ w. inr (within_parts a t w)) (or_cases (same_term a t) (stands_within a t) e)

pub standing_among : (a : Term) (goal : Clause) → stands_in_one a goal ≡ true → IsAmong a (parts_in_all goal)
standing_among a [] e = cc
standing_among a (t ∷ goal) e =
    of_either (λ i. among_left a (parts_in t) (parts_in_all goal) (parts_found a t i)) (λ m. among_right a (parts_in t) (parts_in_all goal) (standing_among a goal m))
    (or_cases (stands_in a t) (stands_in_one a goal) e)

-- one of these terms stands in the goal
pub record Stands (ts : List Term) (goal : List Term) : Type 0 where
  pub found : Term
  pub among : IsAmong found ts
  pub stands : stands_in_one found goal ≡ true

one_of_them : (ts : List Term) (goal : Clause) → one_stands ts goal ≡ true → Stands ts goal
one_of_them [] goal e = cc
one_of_them (t ∷ ts) goal e =
    of_either (λ i. record { found = t; among = inl refl; stands = i })
    (λ m. let r = one_of_them ts goal m in record { found = r.found; among = inr r.among; stands = r.stands }) (or_cases (stands_in_one t goal) (one_stands ts goal) e)

-- A goal without calls of one argument has no candidate, where the rules ask for such.
pub no_elimination : (h : History) (hints : Hints) (goal : Clause) → have_unary (elim_rules h hints) ≡ true → list_any is_unary (parts_in_all goal) ≡ false →
    (e : Eliminating) → EliminateCandidate h hints goal e → ⊥
no_elimination h hints goal rules no_call e c =
    let found = one_of_them (destructors_of e) goal c.stands in
    none_among is_unary found.found (parts_in_all goal) no_call (standing_among found.found goal found.stands)
    (found_unary (renaming_of e) found.found (destructors e.rule) (rule_unary e.rule (elim_rules h hints) rules c.enabled) found.among)
