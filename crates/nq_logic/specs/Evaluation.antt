-- The value of a ground term, found as the meaning of the functions says: IF takes one side, a shell's function builds or
-- takes apart, and any other function is opened by its definition.
use Prim.Native.String.{String as Text}
use Rattle.std.specs.Prelude.{ℕ, zero, suc, Bool, true, false, ◌&&◌, if◌then◌else◌, bytes_eq, codes, List, [], ◌∷◌, Option, Some, None}
use Rattle.nq_logic.specs.Terms.{Name, Term, Variable, Function, Applied, substituted}
use Rattle.nq_logic.specs.Words.{call0, call1, call2, true_term, false_term, zero_term, add1_term}
use Rattle.nq_logic.specs.Histories.{Definition}
use Rattle.nq_logic.specs.Ground.{ground_definitions}
use Rattle.nq_logic.specs.Admissible.{matched}

-- what no term is: the answer where no value was found
abbrev pub no_value : Term
no_value = Variable []

abbrev pub are_same : Term → Term → Bool
are_same (Variable x) (Variable y) = bytes_eq x y
are_same (Variable x) (Function g) = false
are_same (Variable x) (Applied v w) = false
are_same (Function f) (Variable y) = false
are_same (Function f) (Function g) = bytes_eq f g
are_same (Function f) (Applied v w) = false
are_same (Applied t u) (Variable y) = false
are_same (Applied t u) (Function g) = false
are_same (Applied t u) (Applied v w) = are_same t v && are_same u w

abbrev pub truth : Bool → Term
truth b = if b then true_term else false_term

-- the part of a value that is this function's call of one part, or the other term
abbrev pub part_or : Term → Text → Term → Term
part_or other f (Variable x) = other
part_or other f (Function g) = other
part_or other f (Applied t u) = if are_same t (call0 f) then u else other

-- is it this function's call of one part?
abbrev pub is_of : Text → Term → Bool
is_of f (Variable x) = false
is_of f (Function g) = false
is_of f (Applied t u) = are_same t (call0 f)

-- the parts of a pair, or 0
abbrev pub first_part : Term → Term
first_part (Variable x) = zero_term
first_part (Function f) = zero_term
first_part (Applied t u) = part_or zero_term "CONS" t

abbrev pub second_part : Term → Term
second_part (Variable x) = zero_term
second_part (Function f) = zero_term
second_part (Applied t u) = if is_of "CONS" t then u else zero_term

abbrev pub is_number : Term → Bool
is_number (Variable x) = false
is_number (Function f) = bytes_eq f (codes "ZERO")
is_number (Applied t u) = are_same t (call0 "ADD1")

abbrev pub is_pair : Term → Bool
is_pair (Variable x) = false
is_pair (Function f) = false
is_pair (Applied t u) = is_of "CONS" t

-- the number itself, and 0 in the place of anything else
abbrev pub as_number : Term → Term
as_number a = if is_number a then a else zero_term

-- what this name stands for in a table
abbrev pub entry : {X : Type 0} → Name → List (Text × X) → Option X
entry f [] = None
entry f (row ∷ rows) = if bytes_eq f (codes row.0) then Some row.1 else entry f rows

-- the functions of the ground shells of one argument
abbrev pub shell_functions : List (Text × (Term → Term))
shell_functions =
    ("ADD1", λ a. add1_term (as_number a)) ∷ ("SUB1", λ a. part_or zero_term "ADD1" a) ∷ ("NUMBERP", λ a. truth (is_number a))
    ∷ ("CAR", first_part) ∷ ("CDR", second_part) ∷ ("LISTP", λ a. truth (is_pair a))
    ∷ ("PACK", λ a. call1 "PACK" a) ∷ ("UNPACK", λ a. part_or zero_term "PACK" a) ∷ ("LITATOM", λ a. truth (is_of "PACK" a))
    ∷ ("MINUS", λ a. call1 "MINUS" (as_number a)) ∷ ("NEGATIVE-GUTS", λ a. part_or zero_term "MINUS" a) ∷ ("NEGATIVEP", λ a. truth (is_of "MINUS" a))
    ∷ []

-- the functions of two arguments that are not defined
abbrev pub pair_functions : List (Text × (Term → Term → Term))
pair_functions = ("EQUAL", λ a b. truth (are_same a b)) ∷ ("CONS", λ a b. call2 "CONS" a b) ∷ []

abbrev pub definition_named : Name → List Definition → Option Definition
definition_named f [] = None
definition_named f (d ∷ ds) = if bytes_eq f d.function then Some d else definition_named f ds

-- the value of the body of f at these values, by a function that finds values
abbrev pub opened : (Term → Term) → List Definition → Name → List Term → Term
opened value ds f arguments =
    elim (definition_named f ds) as (λ o. Term) [ None ↦ no_value | Some d ↦ value (substituted (matched d.formals arguments) d.body) ]

-- the value of a call of f, by the values of its arguments
abbrev pub value_of_one : (Term → Term) → List Definition → Name → Term → Term
value_of_one value ds f a = elim (entry f shell_functions) as (λ o. Term) [ None ↦ opened value ds f (a ∷ []) | Some g ↦ g a ]

abbrev pub value_of_two : (Term → Term) → List Definition → Name → Term → Term → Term
value_of_two value ds f a b = elim (entry f pair_functions) as (λ o. Term) [ None ↦ opened value ds f (a ∷ b ∷ []) | Some g ↦ g a b ]

-- the value of the side that the test chooses
abbrev pub value_of_side : (Term → Term) → Term → Term → Term → Term
value_of_side value p x y = elim (are_same (value p) false_term) as (λ b. Term) [ true ↦ value y | false ↦ value x ]

-- the value by these definitions, found in so many steps one within another
abbrev pub value_within : List Definition → ℕ → Term → Term
value_within ds zero t = no_value
value_within ds (suc n) (Variable x) = no_value
value_within ds (suc n) (Function f) = Function f
value_within ds (suc n) (Applied (Variable x) a) = no_value
value_within ds (suc n) (Applied (Function f) a) = value_of_one (value_within ds n) ds f (value_within ds n a)
value_within ds (suc n) (Applied (Applied (Variable x) a) b) = no_value
value_within ds (suc n) (Applied (Applied (Function f) a) b) = value_of_two (value_within ds n) ds f (value_within ds n a) (value_within ds n b)
value_within ds (suc n) (Applied (Applied (Applied f p) x) y) = if are_same f (call0 "IF") then value_of_side (value_within ds n) p x y else no_value

-- the value of a ground term whose calls nest little
abbrev pub value_of : Term → Term
value_of t = value_within ground_definitions 100 t

-- each of these terms has the value beside it
abbrev pub have_values : List (Term × Term) → Bool
have_values [] = true
have_values (row ∷ rows) = are_same (value_of row.0) row.1 && have_values rows
