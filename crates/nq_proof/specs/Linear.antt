-- Linear forms of terms, and when a sum of literals' expressions is contradictory.
use Rattle.std.specs.Prelude.{ℤ, pos, neg_ℤ, ◌+ℤ◌, ◌*ℤ◌, int_le, int_lt, ◌-◌, ◌^◌, Bool, true, false, ◌&&◌, List, [], ◌∷◌, Option, Some, None}
use Rattle.nq_logic.specs.Terms.{Term, Variable, Function, Applied}
use Rattle.nq_proof.specs.Clauses.{same_term}
use Rattle.nq_logic.specs.Numerals.{is_numeral}
use Rattle.nq_proof.specs.Paths.{is_function}
use Rattle.nq_proof.specs.Values.{number_or_zero}

-- a number, and terms with factors
pub record Form : Type 0 where
  pub constant : ℤ
  pub atoms : List (Term × ℤ)

abbrev pub and_then : {X Y : Type 0} → Option X → (X → Option Y) → Option Y
and_then None next = None
and_then (Some x) next = next x

-- the number, where it lies within the bounds
abbrev pub bounded : ℤ → Option ℤ
bounded z =
    elim (int_le (neg_ℤ (pos (2 ^ 127 - 1))) z && int_le z (pos (2 ^ 127 - 1))) as (λ b. Option ℤ) [ true ↦ Some z | false ↦ None ]

abbrev pub constant_form : ℤ → Option Form
constant_form z = and_then (bounded z) (λ n. Some (record { constant = n; atoms = [] }))

abbrev pub atom_form : Term → Option Form
atom_form t = Some (record { constant = pos 0; atoms = (t, pos 1) ∷ [] })

-- the atoms with one more, whose factor is added where it stands already
abbrev pub with_atom : Term → ℤ → List (Term × ℤ) → Option (List (Term × ℤ))
with_atom t z [] = Some ((t, z) ∷ [])
with_atom t z (a ∷ atoms) =
    elim (same_term t a.0) as (λ b. Option (List (Term × ℤ))) [
      | true ↦ and_then (bounded (a.1 +ℤ z)) (λ n. Some ((a.0, n) ∷ atoms))
      | false ↦ and_then (with_atom t z atoms) (λ rest. Some (a ∷ rest))
    ]

abbrev pub with_atoms : List (Term × ℤ) → List (Term × ℤ) → Option (List (Term × ℤ))
with_atoms atoms [] = Some atoms
with_atoms atoms (a ∷ more) = and_then (with_atom a.0 a.1 atoms) (λ sum. with_atoms sum more)

abbrev pub added : Form → Form → Option Form
added a b = and_then (bounded (a.constant +ℤ b.constant)) (λ n. and_then (with_atoms a.atoms b.atoms) (λ atoms. Some (record { constant = n; atoms = atoms })))

abbrev pub scaled_atoms : ℤ → List (Term × ℤ) → Option (List (Term × ℤ))
scaled_atoms z [] = Some []
scaled_atoms z (a ∷ atoms) = and_then (bounded (z *ℤ a.1)) (λ n. and_then (scaled_atoms z atoms) (λ rest. Some ((a.0, n) ∷ rest)))

abbrev pub scaled : ℤ → Form → Option Form
scaled z a = and_then (bounded (z *ℤ a.constant)) (λ n. and_then (scaled_atoms z a.atoms) (λ atoms. Some (record { constant = n; atoms = atoms })))

abbrev pub sum_form : Option Form → Option Form → Option Form
sum_form a b = and_then a (λ x. and_then b (λ y. added x y))

-- a numeral's multiple
abbrev pub multiple_form : Term → Option Form → Option Form
multiple_form n a = and_then (constant_form (pos (number_or_zero n))) (λ x. and_then a (λ y. scaled x.constant y))

abbrev pub form_of : Term → Option Form
form_of (Variable x) = atom_form (Variable x)
form_of (Function f) = elim (is_numeral (Function f)) as (λ b. Option Form) [ true ↦ constant_form (pos 0) | false ↦ atom_form (Function f) ]
form_of (Applied (Variable x) t) = atom_form (Applied (Variable x) t)
form_of (Applied (Function f) t) =
    elim (is_numeral (Applied (Function f) t)) as (λ b. Option Form) [
      | true ↦ constant_form (pos (number_or_zero (Applied (Function f) t)))
      | false ↦ elim (is_function "ADD1" (Function f)) as (λ b. Option Form) [ true ↦ sum_form (form_of t) (constant_form (pos 1)) | false ↦ atom_form (Applied (Function f) t) ]
    ]
form_of (Applied (Applied f a) b) =
    elim (is_function "PLUS" f) as (λ b. Option Form) [
      | true ↦ sum_form (form_of a) (form_of b)
      | false ↦ elim (is_function "TIMES" f && is_numeral a) as (λ b. Option Form) [
        | true ↦ multiple_form a (form_of b)
        | false ↦ elim (is_function "TIMES" f && is_numeral b) as (λ b. Option Form) [ true ↦ multiple_form b (form_of a) | false ↦ atom_form (Applied (Applied f a) b) ]
      ]
    ]

-- the first less the second
abbrev pub difference_form : Term → Term → Option Form
difference_form a b = sum_form (form_of a) (and_then (form_of b) (λ y. scaled (neg_ℤ (pos 1)) y))

-- The expression of a literal, which is not negative where the literal is false. An equation is read in the order that
-- the test says.
abbrev pub expression_of : Bool → Term → Option Form
expression_of forwards (Applied (Applied f a) b) =
    elim (is_function "LESSP" f && forwards) as (λ b. Option Form) [ true ↦ difference_form a b | false ↦ None ]
expression_of forwards (Applied n (Applied (Applied f a) b)) =
    elim (is_function "NOT" n && is_function "LESSP" f && forwards) as (λ b. Option Form) [
      | true ↦ sum_form (difference_form b a) (constant_form (neg_ℤ (pos 1)))
      | false ↦ elim (is_function "NOT" n && is_function "EQUAL" f) as (λ b. Option Form) [
        | true ↦ elim forwards as (λ b. Option Form) [ true ↦ difference_form a b | false ↦ difference_form b a ]
        | false ↦ None
      ]
    ]
expression_of forwards t = None

-- no atom has a positive factor
abbrev pub has_no_positive : List (Term × ℤ) → Bool
has_no_positive [] = true
has_no_positive (a ∷ atoms) = int_le a.1 (pos 0) && has_no_positive atoms

-- a form that is negative whatever its atoms' numbers
abbrev pub is_negative : Option Form → Bool
is_negative None = false
is_negative (Some a) = int_lt a.constant (pos 0) && has_no_positive a.atoms
