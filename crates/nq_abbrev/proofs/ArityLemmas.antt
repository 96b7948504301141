-- The arity of a name that stands at a place.
use Rattle.std.proofs.Common.{◌≡◌, ℕ, zero, suc, ◌+◌, ◌<◌, Bool, true, false, List, [], ◌∷◌, length, get_or, refl, sym, ap, ◌∙◌, arith, cond}
use Rattle.std.specs.Prelude.{bytes_eq, Option, None}
use Rattle.std.proofs.lemmas.Slice.Eq.{bytes_eq-Decides}
use Rattle.nq_logic.specs.Terms.{Name}
use Rattle.nq_abbrev.specs.Known.{arity_from}

-- two names that differ
bytes_apart : (b : Bool) (f g : Name) → bytes_eq f g ≡ b → (f ≡ g → ⊥) → b ≡ false
bytes_apart true f g h k = absurd (k ((bytes_eq-Decides f g).0 h))
bytes_apart false f g h k = refl

apart : (f g : Name) → (f ≡ g → ⊥) → bytes_eq f g ≡ false
apart f g k = bytes_apart (bytes_eq f g) f g refl k

pub arity-none : (i : ℕ) (names : List Name) (at : ℕ → Option ℕ) (x : Name) → ((j : ℕ) → j < length names → get_or names j [] ≡ x → ⊥) → arity_from i names at x ≡ None
arity-none i [] at x h = refl
arity-none i (n ∷ names) at x h =
    ap (λ b. cond b (at i) (arity_from (suc i) names at x)) (apart x n (λ e. h 0 (omega arith) (sym e))) ∙ arity-none (suc i) names at x (λ j lt e. h (suc j) (omega arith) e)

pub arity-found : (i : ℕ) (names : List Name) (at : ℕ → Option ℕ) (x : Name) (k : ℕ) → k < length names → get_or names k [] ≡ x → ((j : ℕ) → j < length names → get_or names j [] ≡ x → j ≡ k)
    → arity_from i names at x ≡ at (i + k)
arity-found i [] at x k lt is only = absurd (omega arith)
arity-found i (n ∷ names) at x zero lt is only =
    let same : bytes_eq x n ≡ true = (bytes_eq-Decides x n).1 (sym is) in
    let place : i + 0 ≡ i = omega arith in
    ap (λ b. cond b (at i) (arity_from (suc i) names at x)) same ∙ ap at (sym place)
arity-found i (n ∷ names) at x (suc k) lt is only =
    let place : suc i + k ≡ i + suc k = omega arith in
    let other = apart x n (λ e. zero_no k (only 0 (omega arith) (sym e))) in
    let rest = arity-found (suc i) names at x k (omega arith) is (λ j below e. less_one j k (only (suc j) (omega arith) e)) in
    ap (λ b. cond b (at i) (arity_from (suc i) names at x)) other ∙ rest ∙ ap at place where
      zero_no : (m : ℕ) → 0 ≡ suc m → ⊥
      zero_no m e = cc

      less_one : (j m : ℕ) → suc j ≡ suc m → j ≡ m
      less_one j m e = omega arith

pub arity-at : (names : List Name) (at : ℕ → Option ℕ) (x : Name) (k : ℕ) → k < length names → get_or names k [] ≡ x → ((j : ℕ) → j < length names → get_or names j [] ≡ x → j ≡ k)
    → arity_from 0 names at x ≡ at k
arity-at names at x k lt is only = let place : 0 + k ≡ k = omega arith in arity-found 0 names at x k lt is only ∙ ap at place
