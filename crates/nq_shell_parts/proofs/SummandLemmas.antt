-- The sum of a list, and its summands.
use Rattle.std.proofs.Common.{◌≡◌, ◌+◌, ℕ, zero, suc, List, [], ◌∷◌, length, refl, arith}
use Rattle.std.specs.Prelude.{Some, slice_get}
use Rattle.nq_logic.specs.Terms.{Term}
use Rattle.nq_logic.specs.Shells.{sum_of}
use Rattle.nq_shell_parts.specs.Summands.{IsSum, summand}

-- the sum of so many terms has as many summands
pub sum_is : (ts : List Term) (place more : ℕ) → length ts ≡ place + suc more → IsSum place more (sum_of ts)
sum_is [] place more e = absurd (omega arith)
sum_is (t ∷ []) zero zero e = tt
sum_is (t ∷ []) zero (suc more) e = absurd (omega arith)
sum_is (t ∷ []) (suc place) more e = absurd (omega arith)
sum_is (t ∷ u ∷ ts) zero zero e = absurd (omega arith)
sum_is (t ∷ u ∷ ts) zero (suc more) e = refl
sum_is (t ∷ u ∷ ts) (suc place) more e = let rest : length (u ∷ ts) ≡ place + suc more = omega arith in (refl, sum_is (u ∷ ts) place more rest)

-- and these are the terms
pub summand_is : (ts : List Term) (place more : ℕ) → length ts ≡ place + suc more → slice_get ts place ≡ Some (summand place more (sum_of ts))
summand_is [] place more e = absurd (omega arith)
summand_is (t ∷ []) zero zero e = refl
summand_is (t ∷ []) zero (suc more) e = absurd (omega arith)
summand_is (t ∷ []) (suc place) more e = absurd (omega arith)
summand_is (t ∷ u ∷ ts) zero zero e = absurd (omega arith)
summand_is (t ∷ u ∷ ts) zero (suc more) e = refl
summand_is (t ∷ u ∷ ts) (suc place) more e = let rest : length (u ∷ ts) ≡ place + suc more = omega arith in summand_is (u ∷ ts) place more rest
