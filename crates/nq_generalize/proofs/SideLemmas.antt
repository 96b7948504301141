-- Terms on both sides of equations and inequalities.
use Rattle.std.proofs.Common.{◌≡◌, ◌<◌, ◌≤◌, ℕ, zero, suc, Bool, true, false, ◌||◌, ◌&&◌, List, [], ◌∷◌, length, refl, sym, ap, ◌∙◌, arith}
use Rattle.std.specs.Prelude.{bytes_eq, codes, Result, Ok, Err, IfOk}
use Rattle.nq_bank.proofs.Texts.{bytes_eq-true, eq-bytes_eq, same_test}
use Rattle.nq_proof.specs.Paths.{is_function}
use Rattle.nq_kernel.specs.declared.work.Stop.{Stop}
use Rattle.nq_logic.specs.Terms.{Term, Variable, Function, Applied, applied, call}
use Rattle.nq_logic.specs.Words.{numeral}
use Rattle.nq_bank.specs.declared.node.TermId.{TermId}
use Rattle.nq_bank.specs.Content.{Content, term_at, terms_at}
use Rattle.nq_goals.specs.Generalizing.{is_on_both_sides}
use Rattle.nq_goals.specs.Replacing.{stands_in}

pub or_nothing : (a b : Bool) → a ≡ (b || false) → a ≡ b
or_nothing a true e = e
or_nothing a false e = e

pub sides_variable : (a t : Term) (x : List ℕ) → t ≡ Variable x → false ≡ is_on_both_sides a t
sides_variable a t x is = sym (ap (is_on_both_sides a) is)

numeral_sides : (a : Term) (n : ℕ) → is_on_both_sides a (numeral n) ≡ false
unfolding numeral
numeral_sides a zero = refl
numeral_sides a (suc zero) = refl
numeral_sides a (suc (suc n)) = refl

pub sides_numeral : (a t : Term) (n : ℕ) → t ≡ numeral n → false ≡ is_on_both_sides a t
sides_numeral a t n is = sym (ap (is_on_both_sides a) is ∙ numeral_sides a n)

sides_more : (a f t u v : Term) (ts : List Term) → is_on_both_sides a (applied (Applied (Applied (Applied f t) u) v) ts) ≡ false
sides_more a f t u v [] = refl
sides_more a f t u v (w ∷ ts) = sides_more a (Applied f t) u v w ts

pub few_sides : (bank : Content) (a : Term) (f : List ℕ) (ids : List TermId) → length ids < 2 → false ≡ is_on_both_sides a (call f (terms_at bank ids))
few_sides bank a f [] below = refl
few_sides bank a f (t ∷ []) below = refl
few_sides bank a f (t ∷ (u ∷ ids)) below = absurd (omega (arith, below))

pub many_sides : (bank : Content) (a : Term) (f : List ℕ) (ids : List TermId) → 3 ≤ length ids → false ≡ is_on_both_sides a (call f (terms_at bank ids))
many_sides bank a f [] least = absurd (omega (arith, least))
many_sides bank a f (t ∷ []) least = absurd (omega (arith, least))
many_sides bank a f (t ∷ (u ∷ [])) least = absurd (omega (arith, least))
many_sides bank a f (t ∷ (u ∷ (v ∷ ids))) least = sym (sides_more a (Function f) (term_at bank t) (term_at bank u) (term_at bank v) (terms_at bank ids))

bytes_turned : (x y : List ℕ) → bytes_eq x y ≡ bytes_eq y x
bytes_turned x y = same_test (bytes_eq x y) (bytes_eq y x) (λ e. eq-bytes_eq y x (sym (bytes_eq-true x y e))) (λ e. eq-bytes_eq x y (sym (bytes_eq-true y x e)))

compares_is : (f : List ℕ) (compares : Bool) → compares ≡ (bytes_eq f (codes "EQUAL") || bytes_eq f (codes "LESSP")) → compares ≡ (is_function "EQUAL" (Function f) || is_function "LESSP" (Function f))
compares_is f compares told = told ∙ (ap (λ b. b || bytes_eq f (codes "LESSP")) (bytes_turned f (codes "EQUAL")) ∙ ap (λ b. bytes_eq (codes "EQUAL") f || b) (bytes_turned f (codes "LESSP")))

-- the two sides of a call
pub both_sides : (a t u : Term) (f : List ℕ) (compares : Bool) (r : Result Bool Stop) → compares ≡ (bytes_eq f (codes "EQUAL") || bytes_eq f (codes "LESSP")) → compares ≡ true → IfOk r (λ b. b ≡ (stands_in a t && stands_in a u)) →
    IfOk r (λ b. b ≡ is_on_both_sides a (call f (t ∷ u ∷ [])))
both_sides a t u f compares (Ok both) told is all = all ∙ sym (ap (λ b. b && stands_in a t && stands_in a u) (sym (compares_is f compares told) ∙ is))
both_sides a t u f compares (Err e) told is all = all

pub no_sides : (a t u : Term) (f : List ℕ) (compares : Bool) → compares ≡ (bytes_eq f (codes "EQUAL") || bytes_eq f (codes "LESSP")) → compares ≡ false → false ≡ is_on_both_sides a (call f (t ∷ u ∷ []))
no_sides a t u f compares told is = sym (ap (λ b. b && stands_in a t && stands_in a u) (sym (compares_is f compares told) ∙ is))
