-- Nests of PLUS, and what stands in them.
use Rattle.std.specs.Prelude.{◌≡◌, ◌+◌, ℕ, zero, suc, ⊤, List, [], ◌∷◌, Some, length, slice_get}
use Rattle.nq_logic.specs.Shells.{sum_of}
use Rattle.nq_logic.specs.Terms.{Term, Variable, Function, Applied}
use Rattle.nq_logic.specs.Words.{call2, add1_term}

-- the arguments of a call of two
abbrev pub left_of : Term → Term
left_of (Applied (Applied f a) b) = a
left_of (Applied f a) = Applied f a
left_of (Variable x) = Variable x
left_of (Function f) = Function f

abbrev pub right_of : Term → Term
right_of (Applied f b) = b
right_of (Variable x) = Variable x
right_of (Function f) = Function f

-- the term is a sum
abbrev pub IsPlus : Term → Type 0
IsPlus t = t ≡ call2 "PLUS" (left_of t) (right_of t)

-- so many summands stand before one in a nest, and so many behind it
abbrev pub IsSum : ℕ → ℕ → Term → Type 0
IsSum zero zero t = ⊤
IsSum zero (suc more) t = IsPlus t
IsSum (suc place) more t = IsPlus t × IsSum place more (right_of t)

-- that one
abbrev pub summand : ℕ → ℕ → Term → Term
summand zero zero t = t
summand zero (suc more) t = left_of t
summand (suc place) more t = summand place more (right_of t)

-- a summand is less than one more than the sum
abbrev pub summand_clause : ℕ → ℕ → Term → List Term
summand_clause place more t = call2 "LESSP" (summand place more t) (add1_term t) ∷ []

-- The sum of so many terms has as many summands, which are these terms.
abbrev pub SummandsAreFound : Type 0
SummandsAreFound = (ts : List Term) (place more : ℕ) → length ts ≡ place + suc more → IsSum place more (sum_of ts) × (slice_get ts place ≡ Some (summand place more (sum_of ts)))
