-- Which terms are IFs.
use Rattle.std.proofs.Common.{◌≡◌, ℕ, zero, suc, Bool, true, false, Option, Some, None, List, [], ◌∷◌, length, refl, sym, ap, ◌∙◌, arith}
use Rattle.std.specs.Prelude.{bytes_eq, codes}
use Rattle.nq_logic.specs.Terms.{Term, Function, Applied, applied, call}
use Rattle.nq_logic.specs.Words.{numeral}
use Rattle.nq_bank.proofs.Texts.{bytes_eq-true, eq-bytes_eq, same_test}
use Rattle.std.proofs.lemmas.List.{length-map}
use Rattle.nq_bank.specs.declared.node.TermId.{TermId}
use Rattle.nq_bank.specs.Content.{Content, term_at, terms_at, term_from}
use Rattle.nq_proof.specs.Paths.{IfParts, if_parts}

pub if_parts-numeral : (n : ℕ) → None ≡ if_parts (numeral n)
unfolding numeral
if_parts-numeral zero = refl
if_parts-numeral (suc n) = refl

if_parts-many : (t a b d e : Term) (ts : List Term) → if_parts (applied (Applied (Applied (Applied (Applied t a) b) d) e) ts) ≡ None
if_parts-many t a b d e [] = refl
if_parts-many t a b d e (u ∷ ts) = if_parts-many (Applied t a) b d e u ts

bytes_eq-sym : (f g : List ℕ) → bytes_eq f g ≡ bytes_eq g f
bytes_eq-sym f g =
    same_test (bytes_eq f g) (bytes_eq g f) (λ e. eq-bytes_eq g f (sym (bytes_eq-true f g e))) (λ e. eq-bytes_eq f g (sym (bytes_eq-true g f e)))

abbrev pub if_true : Bool → IfParts → Option IfParts
if_true true parts = Some parts
if_true false parts = None

if_parts-three : (f : List ℕ) (p x y : Term) (b : Bool) → b ≡ bytes_eq f (codes "IF") → if_parts (call f (p ∷ (x ∷ (y ∷ [])))) ≡ if_true b (record { test = p; first = x; second = y })
if_parts-three f p x y b e = by_test (bytes_eq (codes "IF") f) ∙ ap (λ b. if_true b (record { test = p; first = x; second = y })) (bytes_eq-sym (codes "IF") f ∙ sym e)
  where
    by_test : (b : Bool) → elim b as (λ b. Option IfParts) [ true ↦ Some (record { test = p; first = x; second = y }) | false ↦ None ] ≡ if_true b (record { test = p; first = x; second = y })
    by_test true = refl
    by_test false = refl

-- a call of another count of arguments is no IF
pub if_parts-other : (f : List ℕ) (ts : List Term) → (length ts ≡ 3 → ⊥) → None ≡ if_parts (call f ts)
if_parts-other f [] h = refl
if_parts-other f (p ∷ []) h = refl
if_parts-other f (p ∷ (x ∷ [])) h = refl
if_parts-other f (p ∷ (x ∷ (y ∷ []))) h = absurd (h refl)
if_parts-other f (p ∷ (x ∷ (y ∷ (z ∷ ts)))) h = sym (if_parts-many (Function f) p x y z ts)

-- a call of three arguments, which are told by their places
pub if_parts-call : (f : List ℕ) (ts : List Term) (b : Bool) (p x y : Term) → b ≡ bytes_eq f (codes "IF") → ts ≡ p ∷ x ∷ y ∷ [] → if_true b (record { test = p; first = x; second = y }) ≡ if_parts (call f ts)
if_parts-call f ts b p x y e is = sym (ap (λ ts. if_parts (call f ts)) is ∙ if_parts-three f p x y b e)

-- the same of ids
pub no_branches : (bank : Content) (f : List ℕ) (ids : List TermId) → (length ids ≡ 3 → ⊥) → None ≡ if_parts (call f (terms_at bank ids))
no_branches bank f ids h = if_parts-other f (terms_at bank ids) (λ e. h (sym (length-map ids (term_from bank.terms)) ∙ e))

pub no_if : (bank : Content) (f : List ℕ) (ids : List TermId) → length ids ≡ 3 → bytes_eq f (codes "IF") ≡ false → None ≡ if_parts (call f (terms_at bank ids))
no_if bank f [] count other = absurd cc
no_if bank f (p ∷ []) count other = absurd cc
no_if bank f (p ∷ (x ∷ [])) count other = absurd cc
no_if bank f (p ∷ (x ∷ (y ∷ []))) count other = sym (if_parts-three f (term_at bank p) (term_at bank x) (term_at bank y) false (sym other))
no_if bank f (p ∷ (x ∷ (y ∷ (z ∷ ids)))) count other = absurd (omega (arith, count))
