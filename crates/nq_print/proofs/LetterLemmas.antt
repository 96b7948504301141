-- What is no call of CAR or CDR.
use Rattle.std.proofs.Common.{◌≡◌, ℕ, zero, suc, List, [], ◌∷◌, refl}
use Rattle.std.specs.Prelude.{None}
use Rattle.nq_logic.specs.Terms.{Term, Applied, applied}
use Rattle.nq_logic.specs.Words.{numeral}
use Rattle.nq_print.specs.Pieces.{letter_at}

pub letter_at-numeral : (n : ℕ) → letter_at (numeral n) ≡ None
unfolding numeral
letter_at-numeral zero = refl
letter_at-numeral (suc n) = refl

pub letter_at-longer : (s t u : Term) (ts : List Term) → letter_at (applied (Applied (Applied s t) u) ts) ≡ None
letter_at-longer s t u [] = refl
letter_at-longer s t u (v ∷ ts) = letter_at-longer (Applied s t) u v ts
