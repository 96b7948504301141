-- Places within a term.
use Prim.Native.String.{String as Text}
use Rattle.std.specs.Prelude.{ℕ, suc, ◌==◌, Bool, true, false, List, [], ◌∷◌, Option, Some, None, bytes_eq, codes}
use Rattle.nq_logic.specs.Terms.{Term, Variable, Function, Applied}
use Rattle.nq_logic.specs.Numerals.{is_numeral}

-- whether the term is this function, without an argument
abbrev pub is_function : Text → Term → Bool
is_function f (Function g) = bytes_eq (codes f) g
is_function f t = false

abbrev pub argument_count : Term → ℕ
argument_count (Variable x) = 0
argument_count (Function f) = 0
argument_count (Applied t u) = suc (argument_count t)

-- What stood at a place, with the whole term after the change there. The term around it is given as a function of one
-- argument.
abbrev pub around : (Term → Term) → Option (Term × Term) → Option (Term × Term)
around whole None = None
around whole (Some change) = Some (change.0, whole change.1)

-- the change in the argument at this place, counted from 1
abbrev pub in_argument : ℕ → (Term → Option (Term × Term)) → Term → Option (Term × Term)
in_argument place change (Variable x) = None
in_argument place change (Function f) = None
in_argument place change (Applied t u) =
    elim (suc (argument_count t) == place) as (λ b. Option (Term × Term)) [
      | true ↦ around (λ v. Applied t v) (change u)
      | false ↦ around (λ v. Applied v u) (in_argument place change t)
    ]

-- What stands in a term at a path of argument places, and the term with t there instead. A numeral has no argument
-- places.
abbrev pub replaced_at : List ℕ → Term → Term → Option (Term × Term)
replaced_at [] t whole = Some (whole, t)
replaced_at (place ∷ path) t whole =
    elim (is_numeral whole) as (λ b. Option (Term × Term)) [ true ↦ None | false ↦ in_argument place (replaced_at path t) whole ]

-- the three parts of an IF
pub record IfParts : Type 0 where
  pub test : Term
  pub first : Term
  pub second : Term

abbrev pub if_parts : Term → Option IfParts
if_parts (Applied (Applied (Applied f p) x) y) = elim (is_function "IF" f) as (λ b. Option IfParts) [ true ↦ Some (record { test = p; first = x; second = y }) | false ↦ None ]
if_parts t = None

-- what stands under a NOT
abbrev pub under_not : Term → Option Term
under_not (Applied f t) = elim (is_function "NOT" f) as (λ b. Option Term) [ true ↦ Some t | false ↦ None ]
under_not t = None

abbrev pub under_twice : Option Term → Option Term
under_twice None = None
under_twice (Some t) = under_not t

abbrev pub under_two_nots : Term → Option Term
under_two_nots t = under_twice (under_not t)
