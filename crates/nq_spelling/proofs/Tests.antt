-- What tests tell.
use Rattle.std.proofs.Common.{◌≡◌, ℕ, ◌<◌, ◌≤◌, Bool, true, false, List, [], ◌∷◌, refl, arith}
use Rattle.std.specs.Prelude.{◌&&◌, ◌||◌, not, nat_le}
use Rattle.std.specs.List.{list_all}
use Rattle.nq_logic.specs.Terms.{Each}

pub both_true : (a b : Bool) → a && b ≡ true → (a ≡ true) × (b ≡ true)
both_true true true e = (refl, refl)
both_true true false e = absurd (cc)
both_true false b e = absurd (cc)

pub none_true : (a b : Bool) → a || b ≡ false → (a ≡ false) × (b ≡ false)
none_true true b e = absurd (cc)
none_true false true e = absurd (cc)
none_true false false e = (refl, refl)

pub not_true : (b : Bool) → not b ≡ true → b ≡ false
not_true true e = absurd (cc)
not_true false e = refl

pub within : (a b : ℕ) → nat_le a b ≡ true → a ≤ b
within a b e = grind arith

pub above : (a b : ℕ) → nat_le a b ≡ false → b < a
above a b e = grind arith

pub at_most : (a b : ℕ) → a ≤ b → nat_le a b ≡ true
at_most a b le = grind arith

pub each_passes : {X : Type 0} (test : X → Bool) (xs : List X) → list_all test xs ≡ true → Each (λ x. test x ≡ true) xs
each_passes test [] e = tt
each_passes test (x ∷ xs) e = ((both_true (test x) (list_all test xs) e).0, each_passes test xs (both_true (test x) (list_all test xs) e).1)
