-- Terms that new variables have replaced come back.
use Rattle.std.proofs.Common.{◌≡◌, Bool, true, false, ◌||◌, List, [], ◌∷◌, refl, sym, ap, ◌∙◌, inl, inr, if◌then◌else◌}
use Rattle.std.specs.Prelude.{bytes_eq, ⊤}
use Rattle.nq_logic.specs.Terms.{Name, Term, Variable, Function, Applied, IsAmong, Substitution, substituted, value_at}
use Rattle.nq_logic.specs.Admissible.{AreDistinct}
use Rattle.nq_bank.specs.Parts.{occurs}
use Rattle.nq_bank.proofs.Texts.{bytes_eq-true, eq-bytes_eq}
use Rattle.nq_proof.specs.Clauses.{same_term}
use Rattle.nq_proof.proofs.Tests.{same_true}
use Rattle.nq_goals.specs.Replacing.{exchanged_for, exchanged_within, exchanged}
use Rattle.nq_goals.specs.Generalizing.{exchange_of}
use Rattle.nq_moves.specs.Laws.{terms_for, AreNew}

-- a variable that is none of these stays
value_other : (xs : List Name) (ts : List Term) (y : Name) → (IsAmong y xs → ⊥) → value_at (terms_for xs ts) y ≡ Variable y
value_other [] ts y other = refl
value_other (x ∷ xs) [] y other = refl
value_other (x ∷ xs) (t ∷ ts) y other = by_test (value_other xs ts y (λ m. other (inr m))) (bytes_eq y x) refl
  where
    by_test : value_at (terms_for xs ts) y ≡ Variable y → (b : Bool) → bytes_eq y x ≡ b → (if b then t else value_at (terms_for xs ts) y) ≡ Variable y
    by_test rest true e = absurd (other (inl (bytes_eq-true y x e)))
    by_test rest false e = rest

-- each of the variables has its term in the whole substitution
abbrev Tells : Substitution → List Name → List Term → Type 0
Tells whole [] ts = ⊤
Tells whole (x ∷ xs) [] = ⊤
Tells whole (x ∷ xs) (t ∷ ts) = (value_at whole x ≡ t) × Tells whole xs ts

-- a pair before, of another variable, changes nothing
tells_after : (whole : Substitution) (y : Name) (u : Term) (xs : List Name) (ts : List Term) → (IsAmong y xs → ⊥) → Tells whole xs ts → Tells ((y, u) ∷ whole) xs ts
tells_after whole y u [] ts other tells = tt
tells_after whole y u (x ∷ xs) [] other tells = tt
tells_after whole y u (x ∷ xs) (t ∷ ts) other tells = (by_test (bytes_eq x y) refl, tells_after whole y u xs ts (λ m. other (inr m)) tells.1)
  where
    by_test : (b : Bool) → bytes_eq x y ≡ b → (if b then u else value_at whole x) ≡ t
    by_test true e = absurd (other (inl (sym (bytes_eq-true x y e))))
    by_test false e = tells.0

-- distinct variables have their terms
tells_own : (xs : List Name) (ts : List Term) → AreDistinct xs → Tells (terms_for xs ts) xs ts
tells_own [] ts apart = tt
tells_own (x ∷ xs) [] apart = tt
tells_own (x ∷ xs) (t ∷ ts) apart =
    (ap (λ b. if b then t else value_at (terms_for xs ts) x) (eq-bytes_eq x x refl), tells_after (terms_for xs ts) x t xs ts apart.0 (tells_own xs ts apart.1))

for_back : (whole : Substitution) (ts : List Term) (xs : List Name) (t other : Term) → Tells whole xs ts → substituted whole other ≡ t → substituted whole (exchanged_for (exchange_of ts xs) t other) ≡ t
for_back whole [] xs t other tells is = is
for_back whole (u ∷ ts) [] t other tells is = is
for_back whole (u ∷ ts) (x ∷ xs) t other tells is = by_test (for_back whole ts xs t other tells.1 is) (same_term u t) refl
  where
    by_test : substituted whole (exchanged_for (exchange_of ts xs) t other) ≡ t → (b : Bool) → same_term u t ≡ b → substituted whole (elim b as (λ b. Term) [ true ↦ Variable x | false ↦ exchanged_for (exchange_of ts xs) t other ]) ≡ t
    by_test rest true e = tells.0 ∙ same_true u t e
    by_test rest false e = rest

either_first : (a b : Bool) → a ≡ true → (a || b) ≡ true
either_first a b e = ap (λ x. x || b) e

either_second : (a b : Bool) → b ≡ true → (a || b) ≡ true
either_second true b e = refl
either_second false b e = e

within_back : (whole : Substitution) (ts : List Term) (xs : List Name) (t : Term) → Tells whole xs ts → ((y : Name) → occurs y t ≡ true → value_at whole y ≡ Variable y) → substituted whole (exchanged_within (exchange_of ts xs) t) ≡ t
unfolding occurs
within_back whole ts xs (Variable y) tells stays = stays y (eq-bytes_eq y y refl)
within_back whole ts xs (Function f) tells stays = refl
within_back whole ts xs (Applied t u) tells stays =
    let left = within_back whole ts xs t tells (λ y o. stays y (either_first (occurs y t) (occurs y u) o)) in
    let right = for_back whole ts xs u (exchanged_within (exchange_of ts xs) u) tells (within_back whole ts xs u tells (λ y o. stays y (either_second (occurs y t) (occurs y u) o))) in
    ap (λ v. Applied v (substituted whole (exchanged_for (exchange_of ts xs) u (exchanged_within (exchange_of ts xs) u)))) left ∙ ap (Applied t) right

true_no_false : (b : Bool) → b ≡ true → b ≡ false → ⊥
true_no_false true e k = absurd cc
true_no_false false e k = absurd cc

pub exchanged_back : (ts : List Term) (xs : List Name) (t : Term) → AreDistinct xs → AreNew xs t → substituted (terms_for xs ts) (exchanged (exchange_of ts xs) t) ≡ t
exchanged_back ts xs t apart new =
    let whole : Substitution = terms_for xs ts in
    let tells = tells_own xs ts apart in
    for_back whole ts xs t (exchanged_within (exchange_of ts xs) t) tells (within_back whole ts xs t tells (λ y o. value_other xs ts y (λ m. true_no_false (occurs y t) o (new y m))))
