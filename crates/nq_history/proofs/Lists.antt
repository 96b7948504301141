-- Facts about each element of a list.
use Rattle.std.proofs.Common.{ℕ, zero, suc, ◌+◌, ◌<◌, List, [], ◌∷◌, length, get_or, drop, subst, sym, arith}
use Rattle.std.specs.Prelude.{All}
use Rattle.std.proofs.lemmas.List.{length-drop, get_or-drop}

pub All-drop : {X : Type 0} (P : X → Type 0) (n : ℕ) (xs : List X) → All P xs → All P (drop n xs)
All-drop P n xs h = λ i d below.
    let size = length-drop n xs in
    subst P (sym (get_or-drop n xs i d)) (h (n + i) d (omega (arith, size, below)))

pub All-none : {X : Type 0} (P : X → Type 0) → All P []
All-none P = λ i d below. absurd (omega (arith, below))

pub All-cons : {X : Type 0} (P : X → Type 0) (x : X) (xs : List X) → P x → All P xs → All P (x ∷ xs)
All-cons P x xs p h = at
  where
    at : (i : ℕ) (d : _) → i < length (x ∷ xs) → P (get_or (x ∷ xs) i d)
    at zero d below = p
    at (suc i) d below = h i d (omega (arith, below))
