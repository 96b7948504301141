-- Bounds and their terms: the arguments of a bound that is a call.
use Rattle.std.proofs.Common.{◌≡◌, ℕ, zero, suc, ◌-◌, ◌<◌, ◌≤◌, Bool, None, List, [], ◌∷◌, length, get_or, refl, sym, ap, ◌∙◌, subst, arith}
use Rattle.std.specs.Prelude.{codes, bytes_eq, nat_eq}
use Rattle.nq_logic.specs.Terms.{Name, Term, call}
use Rattle.nq_logic.specs.Words.{numeral}
use Rattle.nq_logic.specs.Numerals.{number_of, numeral_limit}
use Rattle.nq_bank.specs.declared.node.TermId.{TermId}
use Rattle.nq_bank.specs.Parts.{parts_of}
use Rattle.nq_bank.specs.Content.{Content, term_at, terms_at, term_from}
use Rattle.nq_bank.specs.Soundness.{IsSound}
use Rattle.nq_clause.specs.declared.binding.Bound.{Bound}
use Rattle.nq_clause.specs.declared.binding.Bound.TheVariants.{Term as Other, Num}
use Rattle.nq_clause.specs.Binding.{bound_at, BoundStands}
use Rattle.nq_clause.specs.Matching.{arguments_of, IsCallOf}
use Rattle.nq_clause.proofs.InstanceLemmas.{Tells, numeral_only, no_numeral, call_parts}
use Rattle.nq_bank.proofs.CallLemmas.{arguments_before-call}
use Rattle.nq_bank.proofs.Texts.{bytes_eq-true, eq-bytes_eq}
use Rattle.std.proofs.lemmas.Bool.{eqb-true}
use Rattle.std.proofs.lemmas.List.{length-map}

same_id : (s t : TermId) → s.0 ≡ t.0 → s ≡ t
same_id s t e = let made : ℕ → TermId = λ n. record { 0 = n } in ap made e

-- bounds of one term are one
pub one_bound : (bank : Content) (b d : Bound) → IsSound bank → BoundStands bank b → BoundStands bank d → bound_at bank b ≡ bound_at bank d → b ≡ d
one_bound bank (Other s) (Other t) sound h k e = ap Other (same_id s t ((sound.terms t k.0).only s h.0 e))
one_bound bank (Other s) (Num n) sound h k e = absurd (no_numeral (term_at bank s) n k h.1 e)
one_bound bank (Num m) (Other t) sound h k e = absurd (no_numeral (term_at bank t) m h k.1 (sym e))
one_bound bank (Num m) (Num n) sound h k e = ap Num (numeral_only m n h k e)

-- a numeral as a call: (ZERO), or else ADD1 of the one below it
pub zero_call : (f : Name) (count n : ℕ) (b : Bool) → n ≡ 0 → count ≡ 0 → b ≡ bytes_eq f (codes "ZERO") → Tells b (IsCallOf f count (numeral n))
unfolding numeral
zero_call f count zero b none empty is = (
  λ h. record { is = ap (λ g. call g []) (sym (bytes_eq-true f (codes "ZERO") (sym is ∙ h))); count = sym empty },
  λ h. is ∙ eq-bytes_eq f (codes "ZERO") (sym (call_parts (codes "ZERO") f [] [] h.is).0),
)
zero_call f count (suc n) b none empty is = absurd (omega arith)

pub no_zero_call : (f : Name) (count n : ℕ) → n ≡ 0 → (count ≡ 0 → ⊥) → IsCallOf f count (numeral n) → ⊥
unfolding numeral
no_zero_call f count zero none other h = other (sym h.count)
no_zero_call f count (suc n) none other h = absurd (omega arith)

pub next_call : (f : Name) (count n : ℕ) (b : Bool) → (n ≡ 0 → ⊥) → count ≡ 1 → b ≡ bytes_eq f (codes "ADD1") → Tells b (IsCallOf f count (numeral n))
unfolding numeral
next_call f count zero b positive one is = absurd (positive refl)
next_call f count (suc n) b positive one is = (
  λ h. record { is = ap (λ g. call g (numeral n ∷ [])) (sym (bytes_eq-true f (codes "ADD1") (sym is ∙ h))); count = sym one },
  λ h. is ∙ eq-bytes_eq f (codes "ADD1") (sym (call_parts (codes "ADD1") f (numeral n ∷ []) (numeral n ∷ []) h.is).0),
)

pub no_next_call : (f : Name) (count n : ℕ) → (n ≡ 0 → ⊥) → (count ≡ 1 → ⊥) → IsCallOf f count (numeral n) → ⊥
unfolding numeral
no_next_call f count zero positive other h = positive refl
no_next_call f count (suc n) positive other h = other (sym h.count)

pub tells_none : (count n : ℕ) (P : Type 0) → (count ≡ n → ⊥) → (P → ⊥) → Tells (nat_eq count n) P
tells_none count n P other none = (λ h. absurd (other (eqb-true count n h)), λ p. absurd (none p))

-- a call of g is one of f where the names are one
pub same_call : (bank : Content) (f g : Name) (t u : Term) (ids : List TermId) (count : ℕ) (b : Bool) → t ≡ u → u ≡ call g (parts_of u) → terms_at bank ids ≡ parts_of u → length ids ≡ count → b ≡ bytes_eq f g → Tells b (IsCallOf f count t)
same_call bank f g t u ids count b same is tells counted tested =
    let parts : arguments_of u ≡ parts_of u = ap arguments_of is ∙ arguments_before-call g (parts_of u) in
    let many : length (arguments_of u) ≡ count = ap length (parts ∙ sym tells) ∙ length-map ids (term_from bank.terms) ∙ counted in
    subst (λ v. Tells b (IsCallOf f count v)) (sym same) (
      λ h. record { is = is ∙ ap (call g) (sym parts) ∙ ap (λ k. call k (arguments_of u)) (sym (bytes_eq-true f g (sym tested ∙ h))); count = many },
      λ h. tested ∙ eq-bytes_eq f g (sym (call_parts g f (parts_of u) (arguments_of u) (sym is ∙ h.is)).0),
    )

pub other_count : (bank : Content) (f g : Name) (t u : Term) (ids : List TermId) (count : ℕ) → t ≡ u → u ≡ call g (parts_of u) → terms_at bank ids ≡ parts_of u → (length ids ≡ count → ⊥) → IsCallOf f count t → ⊥
other_count bank f g t u ids count same is tells other h =
    other (sym (length-map ids (term_from bank.terms)) ∙ ap length (tells ∙ sym (ap arguments_of is ∙ arguments_before-call g (parts_of u)) ∙ ap arguments_of (sym same)) ∙ h.count)

-- the argument of a numeral
pub argument_of_numeral : (n i : ℕ) → i < length (arguments_of (numeral n)) → (1 ≤ n) × (numeral (n - 1) ≡ get_or (arguments_of (numeral n)) i (numeral (n - 1)))
unfolding numeral
argument_of_numeral zero i h = absurd (omega (arith, h))
argument_of_numeral (suc n) zero h = (omega arith, ap numeral (less n))
  where
    less : (m : ℕ) → suc m - 1 ≡ m
    less m = omega arith
argument_of_numeral (suc n) (suc i) h = absurd (omega (arith, h))

-- a bound that is a term of the bank is no numeral
pub numeral_is_other : (bank : Content) (b : Bound) (t : TermId) (n : ℕ) → b ≡ Other t → BoundStands bank b → n < numeral_limit → term_at bank t ≡ numeral n → ⊥
numeral_is_other bank b t n is stands below e =
    no_numeral (term_at bank t) n below (other (subst (BoundStands bank) is stands)) e
  where
    other : BoundStands bank (Other t) → number_of (term_at bank t) ≡ None
    other h = h.1
