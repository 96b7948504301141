-- What follows where something was found.
use Rattle.std.proofs.Common.{◌≡◌, Bool, true, false, List, [], ◌∷◌, ◌||◌, refl}
use Rattle.std.specs.Prelude.{Option, Some, None, is_none, not}
use Rattle.nq_logtext.specs.Reading.{◌>>=◌}
use Rattle.nq_logic.specs.Terms.{Each}
use Rattle.nq_log.specs.States.{is_empty, only_when}

pub nothing_found : {X : Type 0} (x : X) → None ≡ Some x → ⊥
nothing_found x e = cc

pub found_same : {X : Type 0} (x y : X) → Some x ≡ Some y → x ≡ y
found_same x y e = cc

pub bound : {X Y : Type 0} (o : Option X) (next : X → Option Y) (y : Y) → (o >>= next) ≡ Some y → (x : X) × (o ≡ Some x) × (next x ≡ Some y)
bound None next y e = absurd (nothing_found y e)
bound (Some x) next y e = (x, refl, e)

pub allowed : {X : Type 0} (b : Bool) (x y : X) → only_when b x ≡ Some y → (b ≡ true) × (x ≡ y)
allowed true x y e = (refl, found_same x y e)
allowed false x y e = absurd (nothing_found y e)

pub each_empty : {X : Type 0} (P : X → Type 0) (xs : List X) → is_empty xs ≡ true → Each P xs
each_empty P [] e = tt
each_empty P (x ∷ xs) e = absurd cc

pub denied : (b : Bool) → not b ≡ true → b ≡ false
denied true e = absurd cc
denied false e = refl

pub neither_left : (a b : Bool) → a || b ≡ false → a ≡ false
neither_left true b e = absurd cc
neither_left false b e = refl

pub neither_right : (a b : Bool) → a || b ≡ false → b ≡ false
neither_right true b e = absurd cc
neither_right false b e = e

pub none_is : {X : Type 0} (o : Option X) → is_none o ≡ true → o ≡ None
none_is None e = refl
none_is (Some x) e = absurd cc
