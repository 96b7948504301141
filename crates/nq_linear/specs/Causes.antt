-- Why nothing is found: numbers that leave LINEAR's bounds where the literals' expressions are made.
use Rattle.std.specs.Prelude.{◌≡◌, ◌⊎◌, ℕ, ℤ, pos, ◌+ℤ◌, ◌*ℤ◌, true, List, Some, None}
use Rattle.nq_logic.specs.Terms.{Term, Variable, Function, Applied, IsAmong}
use Rattle.nq_logic.specs.Numerals.{is_numeral}
use Rattle.nq_proof.specs.Linear.{bounded}
use Rattle.nq_proof.specs.Values.{number_or_zero}
use Rattle.nq_linear_rule.specs.declared.faults.Fault.{Fault}
use Rattle.nq_linear_rule.specs.declared.faults.Fault.TheVariants.{Passes, Wide}
use Rattle.nq_linear_rule.specs.Faults.{literals_fault}

-- the term is the numeral of n
pub record IsNumeralOf (n : ℕ) (t : Term) : Type 0 where
  pub numeral : is_numeral t ≡ true
  pub number : number_or_zero t ≡ n

-- it stands in the term
abbrev pub HoldsNumeral : ℕ → Term → Type 0
HoldsNumeral n (Variable x) = IsNumeralOf n (Variable x)
HoldsNumeral n (Function f) = IsNumeralOf n (Function f)
HoldsNumeral n (Applied t u) = IsNumeralOf n (Applied t u) ⊎ (HoldsNumeral n t ⊎ HoldsNumeral n u)

-- the sum or the product of the two leaves the bounds
abbrev pub LeaveBounds : ℤ → ℤ → Type 0
LeaveBounds x y = (bounded (x +ℤ y) ≡ None) ⊎ (bounded (x *ℤ y) ≡ None)

-- the two are the first to leave the bounds where the literals' expressions are made, from left to right
pub record ArePassing (literals : List Term) (x y : ℤ) : Type 0 where
  pub met : literals_fault literals ≡ Some (Passes x y)
  pub leave : LeaveBounds x y

-- so it is with the numeral, which stands in one of the literals
pub record IsTooWide (literals : List Term) (n : ℕ) : Type 0 where
  pub met : literals_fault literals ≡ Some (Wide n)
  pub leaves : bounded (pos n) ≡ None
  pub literal : Term
  pub among : IsAmong literal literals
  pub holds : HoldsNumeral n literal
