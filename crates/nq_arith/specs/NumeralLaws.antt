-- The functions of numbers on numerals, of any size.
use Rattle.std.specs.Prelude.{ℕ, ◌+◌, ◌-◌, ◌*◌, ◌/◌, ◌%◌, ◌==◌, nat_lt, if◌then◌else◌, [], ◌∷◌}
use Rattle.nq_logic.specs.Words.{call1, call2, equal_term, numeral}
use Rattle.nq_logic.specs.Formulas.{clause}
use Rattle.nq_logic.specs.Histories.{History}
use Rattle.nq_proof.specs.Values.{truth}
use Rattle.nq_logic.specs.Derivations.{Derivable}

abbrev pub NumeralIsNumber : Type 0
NumeralIsNumber = (h : History) (n : ℕ) → Derivable h (clause (call1 "NUMBERP" (numeral n) ∷ []))

abbrev pub SumOfNumerals : Type 0
SumOfNumerals = (h : History) (m n : ℕ) → Derivable h (clause (equal_term (call2 "PLUS" (numeral m) (numeral n)) (numeral (m + n)) ∷ []))

abbrev pub ProductOfNumerals : Type 0
ProductOfNumerals = (h : History) (m n : ℕ) → Derivable h (clause (equal_term (call2 "TIMES" (numeral m) (numeral n)) (numeral (m * n)) ∷ []))

abbrev pub LessOfNumerals : Type 0
LessOfNumerals = (h : History) (m n : ℕ) → Derivable h (clause (equal_term (call2 "LESSP" (numeral m) (numeral n)) (truth (nat_lt m n)) ∷ []))

abbrev pub DifferenceOfNumerals : Type 0
DifferenceOfNumerals = (h : History) (m n : ℕ) → Derivable h (clause (equal_term (call2 "DIFFERENCE" (numeral m) (numeral n)) (numeral (m - n)) ∷ []))

abbrev pub QuotientOfNumerals : Type 0
QuotientOfNumerals = (h : History) (m n : ℕ) → Derivable h (clause (equal_term (call2 "QUOTIENT" (numeral m) (numeral n)) (numeral (if n == 0 then 0 else m / n)) ∷ []))

abbrev pub RemainderOfNumerals : Type 0
RemainderOfNumerals = (h : History) (m n : ℕ) → Derivable h (clause (equal_term (call2 "REMAINDER" (numeral m) (numeral n)) (numeral (if n == 0 then m else m % n)) ∷ []))
