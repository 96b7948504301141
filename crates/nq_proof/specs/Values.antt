-- The table of the values of calls on values.
use Prim.Native.String.{String as Text}
use Rattle.std.specs.Prelude.{ℕ, ◌+◌, ◌-◌, ◌*◌, ◌/◌, ◌%◌, ◌==◌, nat_lt, Bool, true, false, ◌&&◌, ◌||◌, not, if◌then◌else◌, List, [], ◌∷◌, Option, Some, None}
use Rattle.nq_logic.specs.Terms.{Term, Variable, Function, Applied}
use Rattle.nq_logic.specs.Numerals.{numeral_limit, number_of, is_numeral}
use Rattle.nq_logic.specs.Values.{is_value}
use Rattle.nq_logic.specs.Words.{call1, true_term, false_term, zero_term, numeral}
use Rattle.nq_proof.specs.Clauses.{same_term}
use Rattle.nq_proof.specs.Paths.{is_function}

-- the part of a value that is the call of this function of one argument, or 0
abbrev pub part_of : Text → Term → Term
part_of f (Applied g u) = if is_function f g then u else zero_term
part_of f t = zero_term

abbrev pub first_of_pair : Term → Term
first_of_pair (Applied (Applied f t) u) = if is_function "CONS" f then t else zero_term
first_of_pair t = zero_term

abbrev pub rest_of_pair : Term → Term
rest_of_pair (Applied (Applied f t) u) = if is_function "CONS" f then u else zero_term
rest_of_pair t = zero_term

abbrev pub is_pair : Term → Bool
is_pair (Applied (Applied f t) u) = is_function "CONS" f
is_pair t = false

-- whether this is a call of the function, of one argument
abbrev pub is_call_of : Text → Term → Bool
is_call_of f (Applied g u) = is_function f g
is_call_of f t = false

abbrev pub or_zero : Option ℕ → ℕ
or_zero None = 0
or_zero (Some n) = n

-- the number of a value; another value counts as 0
abbrev pub number_or_zero : Term → ℕ
number_or_zero t = or_zero (number_of t)

abbrev pub truth : Bool → Term
truth true = true_term
truth false = false_term

abbrev pub is_true : Term → Bool
is_true t = not (same_term t false_term)

-- a numeral, where it is below the limit
abbrev pub narrow : ℕ → Option Term
narrow n = elim (nat_lt n numeral_limit) as (λ b. Option Term) [ true ↦ Some (numeral n) | false ↦ None ]

-- the value, where the condition holds
abbrev pub only_if : Bool → Term → Option Term
only_if true t = Some t
only_if false t = None

-- the rows of functions of one argument, of two and of three
abbrev pub rows_of_one : List (Text × (Term → Option Term))
rows_of_one =
    ("TRUEP", λ a. Some (truth (same_term a true_term)))
    ∷ ("FALSEP", λ a. Some (truth (same_term a false_term)))
    ∷ ("NUMBERP", λ a. Some (truth (is_numeral a)))
    ∷ ("LISTP", λ a. Some (truth (is_pair a)))
    ∷ ("LITATOM", λ a. Some (truth (is_call_of "PACK" a)))
    ∷ ("NEGATIVEP", λ a. Some (truth (is_call_of "MINUS" a)))
    ∷ ("SUB1", λ a. Some (numeral (number_or_zero a - 1)))
    ∷ ("CAR", λ a. Some (first_of_pair a))
    ∷ ("CDR", λ a. Some (rest_of_pair a))
    ∷ ("UNPACK", λ a. Some (part_of "PACK" a))
    ∷ ("NEGATIVE-GUTS", λ a. Some (part_of "MINUS" a))
    ∷ ("ADD1", λ a. only_if (not (is_numeral a)) (numeral 1))
    ∷ ("MINUS", λ a. only_if (not (is_numeral a)) (call1 "MINUS" zero_term))
    ∷ ("NOT", λ a. Some (truth (not (is_true a))))
    ∷ ("NLISTP", λ a. Some (truth (not (is_pair a))))
    ∷ ("ZEROP", λ a. Some (truth (number_or_zero a == 0)))
    ∷ ("FIX", λ a. Some (numeral (number_or_zero a)))
    ∷ ("IDENTITY", λ a. Some a)
    ∷ ("COUNT", λ a. only_if (is_numeral a) a)
    ∷ []

abbrev pub rows_of_two : List (Text × (Term → Term → Option Term))
rows_of_two =
    ("EQUAL", λ a b. Some (truth (same_term a b)))
    ∷ ("AND", λ a b. Some (truth (is_true a && is_true b)))
    ∷ ("OR", λ a b. Some (truth (is_true a || is_true b)))
    ∷ ("IMPLIES", λ a b. Some (truth (not (is_true a) || is_true b)))
    ∷ ("IFF", λ a b. Some (truth (if is_true a then is_true b else not (is_true b))))
    ∷ ("MAX", λ a b. Some (if nat_lt (number_or_zero a) (number_or_zero b) then b else numeral (number_or_zero a)))
    ∷ ("PLUS", λ a b. narrow (number_or_zero a + number_or_zero b))
    ∷ ("TIMES", λ a b. narrow (number_or_zero a * number_or_zero b))
    ∷ ("DIFFERENCE", λ a b. Some (numeral (number_or_zero a - number_or_zero b)))
    ∷ ("QUOTIENT", λ a b. Some (numeral (if number_or_zero b == 0 then 0 else number_or_zero a / number_or_zero b)))
    ∷ ("REMAINDER", λ a b. Some (numeral (if number_or_zero b == 0 then number_or_zero a else number_or_zero a % number_or_zero b)))
    ∷ ("LESSP", λ a b. Some (truth (nat_lt (number_or_zero a) (number_or_zero b))))
    ∷ ("GREATERP", λ a b. Some (truth (nat_lt (number_or_zero b) (number_or_zero a))))
    ∷ ("LEQ", λ a b. Some (truth (not (nat_lt (number_or_zero b) (number_or_zero a)))))
    ∷ ("GEQ", λ a b. Some (truth (not (nat_lt (number_or_zero a) (number_or_zero b)))))
    ∷ []

abbrev pub rows_of_three : List (Text × (Term → Term → Term → Option Term))
rows_of_three = ("IF", λ a b c. Some (if is_true a then b else c)) ∷ []

-- what stands under the name in a table
abbrev pub row_named : {X : Type 0} → Term → List (Text × X) → Option X
row_named f [] = None
row_named {X = X} f (r ∷ rows) = elim (is_function r.0 f) as (λ b. Option X) [ true ↦ Some r.1 | false ↦ row_named f rows ]

-- the value of a call on values; none where there is no row, or an argument is no value
abbrev pub value_of : Term → Option Term
value_of (Variable x) = None
value_of (Function f) = None
value_of (Applied (Variable x) a) = None
value_of (Applied (Function f) a) =
    elim (is_value a) as (λ b. Option Term) [
      | false ↦ None
      | true ↦ elim (row_named (Function f) rows_of_one) as (λ o. Option Term) [ None ↦ None | Some row ↦ row a ]
    ]
value_of (Applied (Applied (Variable x) a) b) = None
value_of (Applied (Applied (Function f) a) b) =
    elim (is_value a && is_value b) as (λ b. Option Term) [
      | false ↦ None
      | true ↦ elim (row_named (Function f) rows_of_two) as (λ o. Option Term) [ None ↦ None | Some row ↦ row a b ]
    ]
value_of (Applied (Applied (Applied f a) b) c) =
    elim (is_value a && is_value b && is_value c) as (λ b. Option Term) [
      | false ↦ None
      | true ↦ elim (row_named f rows_of_three) as (λ o. Option Term) [ None ↦ None | Some row ↦ row a b c ]
    ]
