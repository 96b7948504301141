-- Calls on values whose number would be too great.
use Rattle.std.specs.Prelude.{ℕ, suc, ◌+◌, ◌*◌, nat_lt, Bool, false, not, bytes_eq, codes, if◌then◌else◌, Option, Some, None}
use Rattle.std.specs.Option.{option_map}
use Rattle.nq_logic.specs.Terms.{Term, Variable, Function, Applied}
use Rattle.nq_logic.specs.Numerals.{number_of, numeral_limit}
use Rattle.nq_proof.specs.Values.{number_or_zero}

-- the number that ADD1 makes of a numeral, and PLUS and TIMES of the numbers of two values, however great it is
abbrev pub number_made : Term → Option ℕ
number_made (Variable x) = None
number_made (Function f) = None
number_made (Applied (Variable x) a) = None
number_made (Applied (Function f) a) = if bytes_eq f (codes "ADD1") then option_map suc (number_of a) else None
number_made (Applied (Applied (Variable x) a) b) = None
number_made (Applied (Applied (Function f) a) b) =
    if bytes_eq f (codes "PLUS") then Some (number_or_zero a + number_or_zero b)
    else (if bytes_eq f (codes "TIMES") then Some (number_or_zero a * number_or_zero b) else None)
number_made (Applied (Applied (Applied t a) b) c) = None

abbrev pub reaches_limit : Option ℕ → Bool
reaches_limit None = false
reaches_limit (Some n) = not (nat_lt n numeral_limit)

-- whether a number of the call would reach 2^128
abbrev pub passes : Term → Bool
passes t = reaches_limit (number_made t)
