-- The other terms of a proposition are no deeper than it.
use Rattle.std.proofs.Common.{◌≡◌, ◌≤◌, ◌<◌, ◌⊎◌, ℕ, Bool, true, false, Option, Some, None, List, ◌++◌, refl, sym, ap, ◌∙◌, subst, inl, inr, arith}
use Rattle.std.specs.Prelude.{codes, bytes_eq, if◌then◌else◌}
use Rattle.nq_logic.specs.Terms.{Term, Variable, Function, Applied, IsAmong}
use Rattle.nq_logic.specs.Sizes.{depth_of}
use Rattle.nq_logic.specs.Words.{not_term, if_term}
use Rattle.nq_bank.proofs.Texts.{bytes_eq-true}
use Rattle.nq_fragments.specs.declared.connective.Connective.{Connective}
use Rattle.nq_fragments.specs.Propositions.{Proposition, Other, Truth, Falsity, Choice, Denial, proposition_of, connective_of, joined_by, others_in, truth_of}
use Rattle.nq_quick.specs.Heads.{joined_term}
use Rattle.nq_fragments.specs.Tautologies.{IsSmallTautology}
use Rattle.nq_quick.proofs.HeadLemmas.{named_term}
use Rattle.nq_quick.proofs.LineLemmas.{among_either}
use Rattle.nq_quick.proofs.DepthLemmas.{under_not_shallower, test_shallower, first_shallower, second_shallower, left_shallower, right_shallower}

-- u is one of the only term's others, or is less deep
abbrev IsBelow : Term → Term → Proposition → Type 0
IsBelow u t p = (p ≡ Other t) ⊎ (depth_of u < depth_of t)

abbrev IsOtherBelow : Term → Term → Type 0
IsOtherBelow t u = IsAmong u (others_in (proposition_of t)) → IsBelow u t (proposition_of t)

no_deeper : (u t : Term) → IsAmong u (others_in (proposition_of t)) → IsBelow u t (proposition_of t) → depth_of u ≤ depth_of t
no_deeper u t m (inr below) = omega (arith, below)
no_deeper u t m (inl e) = elim (subst (λ p. IsAmong u (others_in p)) e m) [ inl same ↦ (let depth : depth_of u ≡ depth_of t = ap depth_of same in omega (arith, depth)) | inr none ↦ absurd none ]

below_constant : (f : List ℕ) (u : Term) (b c : Bool) → IsAmong u (others_in (if b then Truth else if c then Falsity else Other (Function f))) → IsBelow u (Function f) (if b then Truth else if c then Falsity else Other (Function f))
below_constant f u true c m = absurd m
below_constant f u false true m = absurd m
below_constant f u false false m = inl refl

within_parts : (u t : Term) (k n : ℕ) → depth_of u ≤ k → k < n → n ≡ depth_of t → depth_of u < depth_of t
within_parts u t k n a b c = omega (arith, a, b, c)

-- an other term is the proposition itself, or is less deep
pub other_below : (t u : Term) → IsAmong u (others_in (proposition_of t)) → IsBelow u t (proposition_of t)
unfolding proposition_of
other_below (Variable x) u m = inl refl
other_below (Function f) u m = below_constant f u (bytes_eq f (codes "TRUE")) (bytes_eq f (codes "FALSE")) m
other_below (Applied (Variable z) p) u m = inl refl
other_below (Applied (Function f) p) u m = by_test (other_below p u) (bytes_eq f (codes "NOT")) refl m
  where
    whole : Term
    whole = Applied (Function f) p

    by_test : IsOtherBelow p u → (b : Bool) → bytes_eq f (codes "NOT") ≡ b → IsAmong u (others_in (if b then Denial (proposition_of p) else Other whole)) → IsBelow u whole (if b then Denial (proposition_of p) else Other whole)
    by_test rest false e m = inl refl
    by_test rest true e m =
        let inner : depth_of u ≤ depth_of p = no_deeper u p m (rest m) in
        let name : Applied (Function (codes "NOT")) p ≡ whole = ap (λ g. Applied (Function g) p) (sym (bytes_eq-true f (codes "NOT") e)) in
        inr (within_parts u whole (depth_of p) (depth_of (not_term p)) inner (under_not_shallower p) (ap depth_of name))
other_below (Applied (Applied (Variable z) p) q) u m = inl refl
other_below (Applied (Applied (Function f) p) q) u m = by_name (other_below p u) (other_below q u) (connective_of f) refl m
  where
    whole : Term
    whole = Applied (Applied (Function f) p) q

    by_name : IsOtherBelow p u → IsOtherBelow q u → (o : Option Connective) → connective_of f ≡ o → IsAmong u (others_in (joined_by o whole (proposition_of p) (proposition_of q))) → IsBelow u whole (joined_by o whole (proposition_of p) (proposition_of q))
    by_name left right None e m = inl refl
    by_name left right (Some c) e m =
        let same : depth_of (joined_term c p q) ≡ depth_of whole = ap depth_of (sym (named_term f c p q e)) in
        elim (among_either u (others_in (proposition_of p)) (others_in (proposition_of q)) m) [
          | inl k ↦ inr (within_parts u whole (depth_of p) (depth_of (joined_term c p q)) (no_deeper u p k (left k)) (left_shallower c p q) same)
          | inr k ↦ inr (within_parts u whole (depth_of q) (depth_of (joined_term c p q)) (no_deeper u q k (right k)) (right_shallower c p q) same)
        ]
other_below (Applied (Applied (Applied (Variable z) p) q) r) u m = inl refl
other_below (Applied (Applied (Applied (Applied t o) p) q) r) u m = inl refl
other_below (Applied (Applied (Applied (Function f) p) q) r) u m = by_test (other_below p u) (other_below q u) (other_below r u) (bytes_eq f (codes "IF")) refl m
  where
    whole : Term
    whole = Applied (Applied (Applied (Function f) p) q) r

    by_test : IsOtherBelow p u → IsOtherBelow q u → IsOtherBelow r u → (b : Bool) → bytes_eq f (codes "IF") ≡ b → IsAmong u (others_in (if b then Choice (proposition_of p) (proposition_of q) (proposition_of r) else Other whole)) → IsBelow u whole (if b then Choice (proposition_of p) (proposition_of q) (proposition_of r) else Other whole)
    by_test test first second false e m = inl refl
    by_test test first second true e m =
        let same : depth_of (if_term p q r) ≡ depth_of whole = ap depth_of (ap (λ g. Applied (Applied (Applied (Function g) p) q) r) (sym (bytes_eq-true f (codes "IF") e))) in
        elim (among_either u (others_in (proposition_of p)) (others_in (proposition_of q) ++ others_in (proposition_of r)) m) [
          | inl k ↦ inr (within_parts u whole (depth_of p) (depth_of (if_term p q r)) (no_deeper u p k (test k)) (test_shallower p q r) same)
          | inr k ↦ elim (among_either u (others_in (proposition_of q)) (others_in (proposition_of r)) k) [
            | inl l ↦ inr (within_parts u whole (depth_of q) (depth_of (if_term p q r)) (no_deeper u q l (first l)) (first_shallower p q r) same)
            | inr l ↦ inr (within_parts u whole (depth_of r) (depth_of (if_term p q r)) (no_deeper u r l (second l)) (second_shallower p q r) same)
          ]
        ]

-- an other term of a tautology is less deep than it
pub tautology_deeper : (t u : Term) → IsSmallTautology t → IsAmong u (others_in (proposition_of t)) → depth_of u < depth_of t
tautology_deeper t u h m = elim (other_below t u m) [
  | inr below ↦ below
  | inl e ↦ (let no : false ≡ true = sym (ap (truth_of (λ v. false)) e) ∙ h.always_true (λ v. false) in absurd cc)
]
