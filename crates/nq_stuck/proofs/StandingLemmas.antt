-- What stands in terms, and is found there.
use Rattle.std.proofs.Common.{◌≡◌, Bool, true, false, ◌||◌, ◌&&◌, List, [], ◌∷◌, refl, ap, ◌∙◌, inl, inr}
use Rattle.std.specs.Prelude.{not, ◌⊎◌}
use Rattle.nq_logic.specs.Terms.{Term, Variable, Function, Applied, IsAmong}
use Rattle.nq_logic.specs.Values.{is_value}
use Rattle.nq_logic.specs.RuleShapes.{is_call, inner_terms}
use Rattle.nq_bank.specs.declared.node.TermId.{TermId}
use Rattle.nq_bank.specs.Content.{Content, terms_at}
use Rattle.nq_proof.specs.Clauses.{Clause, same_term, has_term, without}
use Rattle.nq_proof.proofs.Tests.{same_true}
use Rattle.nq_rule.proofs.LiteralLemmas.{true_same}
use Rattle.nq_goals.specs.Replacing.{parts_in, parts_in_all, stands_in, stands_in_one, stands_within}
use Rattle.nq_stuck.specs.Calls.{HoldsAll}
use Rattle.nq_stuck.specs.Candidates.{can_replace}
use Rattle.nq_stuck.proofs.Joined.{among_first, among_second}

pub one_of : (a b : Bool) → (a || b) ≡ true → (a ≡ true) ⊎ (b ≡ true)
one_of true b e = inl refl
one_of false b e = inr e

pub within_among : (a t : Term) → stands_within a t ≡ true → IsAmong a (inner_terms t)
within_among a (Variable x) e = absurd (cc)
within_among a (Function f) e = absurd (cc)
within_among a (Applied t u) e =
    elim (one_of (stands_within a t) (same_term a u || stands_within a u) e) [
      | inl left ↦ among_first a (inner_terms t) (u ∷ inner_terms u) (within_among a t left)
      | inr right ↦
          among_second a (inner_terms t) (u ∷ inner_terms u)
          (elim (one_of (same_term a u) (stands_within a u) right) [ inl same ↦ inl (same_true a u same) | inr inside ↦ inr (within_among a u inside) ])
    ]

pub stands_among : (a t : Term) → stands_in a t ≡ true → IsAmong a (parts_in t)
stands_among a t e = elim (one_of (same_term a t) (stands_within a t) e) [ inl same ↦ inl (same_true a t same) | inr inside ↦ inr (within_among a t inside) ]

pub one_among : (a : Term) (c : Clause) → stands_in_one a c ≡ true → IsAmong a (parts_in_all c)
one_among a [] e = absurd (cc)
one_among a (t ∷ c) e =
    elim (one_of (stands_in a t) (stands_in_one a c) e) [
      | inl here ↦ among_first a (parts_in t) (parts_in_all c) (stands_among a t here)
      | inr there ↦ among_second a (parts_in t) (parts_in_all c) (one_among a c there)
    ]

pub among_has : (a : Term) (c : Clause) → IsAmong a c → has_term a c ≡ true
among_has a [] m = absurd m
among_has a (t ∷ c) (inl e) = ap (λ b. b || has_term a c) (true_same a t e)
among_has a (t ∷ c) (inr m) = either_true (same_term a t) (has_term a c) (among_has a c m)
  where
    either_true : (a b : Bool) → b ≡ true → (a || b) ≡ true
    either_true true b e = refl
    either_true false b e = e

-- a call that stands in terms was found
pub stands_found : (bank : Content) (found : List TermId) (c : Clause) (a : Term) → HoldsAll bank found c → is_call a ≡ true → is_value a ≡ false → stands_in_one a c ≡ true → IsAmong a (terms_at bank found)
stands_found bank found c a held called other e = held.each a (one_among a c e) called other

-- a call that was not found in the other literals stands in none
pub not_replaced : (bank : Content) (found : List TermId) (goal others : Clause) (literal side : Term) → HoldsAll bank found others → others ≡ without literal goal → is_value side ≡ false →
    has_term side (terms_at bank found) ≡ false → can_replace goal literal side ≡ false
not_replaced bank found goal others literal side held are other absent =
    by_tests (is_call side) (stands_in_one side (without literal goal)) refl refl
  where
    by_tests : (a b : Bool) → is_call side ≡ a → stands_in_one side (without literal goal) ≡ b → (a && not (is_value side) && b) ≡ false
    by_tests false b e f = refl
    by_tests true false e f = both_false (true && not (is_value side))
      where
        both_false : (x : Bool) → (x && false) ≡ false
        both_false true = refl
        both_false false = refl
    by_tests true true e f =
        let there = among_has side (terms_at bank found) (stands_found bank found others side held e other (ap (stands_in_one side) are ∙ f)) in
        absurd (cc)
