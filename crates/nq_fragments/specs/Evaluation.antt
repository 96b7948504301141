-- The value of a ground term. IF takes the value of its test and of one side. Another call takes the values of its arguments,
-- from left to right; then a row of the table of values gives its value, or the call is a value itself, or it is opened, which
-- is one call. Openings nest: what a call opens to is evaluated with one nesting less.
use Rattle.std.specs.Prelude.{◌≡◌, ◌≤◌, ℕ, zero, suc, true, false, List, [], ◌∷◌, bytes_eq, codes, Option, Some, None}
use Rattle.nq_logic.specs.Terms.{Name, Term, Variable, Function, Applied}
use Rattle.nq_logic.specs.Words.{false_term}
use Rattle.nq_logic.specs.Histories.{History}
use Rattle.nq_logic.specs.Sizes.{depth_of}
use Rattle.nq_logic.specs.Values.{is_value}
use Rattle.nq_logic.specs.RuleShapes.{variables_of}
use Rattle.nq_proof.specs.Values.{value_of, is_true}
use Rattle.nq_value.specs.Passing.{passes}
use Rattle.nq_fragments.specs.Outcomes.{Outcome, Reached, BlockedAt, OutOfFuel, and_next, is_small, kept, term_depth, call_limit, nesting_limit}
use Rattle.nq_fragments.specs.Openings.{Opening, opening_of, body_of}

-- what evaluates a term, where so many calls are left
abbrev pub Way : Type 0
Way = ℕ → Outcome

-- one call less, and then what it opens to
abbrev pub opened : (Term → Way) → Term → Way
opened within t zero = OutOfFuel
opened within t (suc left) = within t left

abbrev pub opened_by : (Term → Way) → Term → Option Opening → Way
opened_by within u None left = BlockedAt u
opened_by within u (Some o) left = opened within (body_of o) left

-- a call on values that has no row, or whose number passes
abbrev pub without_row : History → (Term → Way) → Term → Way
without_row h within u left =
    elim (is_value u) as (λ b. Outcome) [
      | true ↦ kept u u left
      | false ↦ elim (passes u) as (λ b. Outcome) [ true ↦ BlockedAt u | false ↦ opened_by within u (opening_of h u) left ]
    ]

abbrev pub by_row : History → (Term → Way) → Term → Option Term → Way
by_row h within u (Some v) left = kept u v left
by_row h within u None left = without_row h within u left

-- a call on values
abbrev pub on_values : History → (Term → Way) → Term → Way
on_values h within u left = by_row h within u (value_of u) left

-- the function with the values of these arguments, one after the other, and then its call
abbrev pub applied_to : (Term → Way) → Term → List Way → Way
applied_to next t [] left = next t left
applied_to next t (w ∷ ws) left = and_next (w left) (λ v rest. applied_to next (Applied t v) ws rest)

-- the side that a test chooses
abbrev pub side : Way → Way → Term → Way
side x y v left = elim (is_true v) as (λ b. Outcome) [ true ↦ x left | false ↦ y left ]

abbrev pub choice : Way → Way → Way → Way
choice p x y left = and_next (p left) (side x y)

-- IF of three arguments is a choice
abbrev pub choice_of : Name → List Way → Option Way
choice_of f (p ∷ x ∷ y ∷ []) = elim (bytes_eq f (codes "IF")) as (λ b. Option Way) [ true ↦ Some (choice p x y) | false ↦ None ]
choice_of f ws = None

abbrev pub chosen : Option Way → Way → Way
chosen (Some w) other left = w left
chosen None other left = other left

-- a call of arguments that are evaluated so
abbrev pub of_call : History → (Term → Way) → Name → List Way → Way
of_call h within f ws = chosen (choice_of f ws) (applied_to (on_values h within) (Function f) ws)

-- a value that is not too deep is its own
abbrev pub unless_small : Term → Way → Way
unless_small t other left = elim (is_small t) as (λ b. Outcome) [ true ↦ Reached t left | false ↦ other left ]

-- a term that is given these further arguments
abbrev pub given_more : History → (Term → Way) → Term → List Way → Way
given_more h within (Variable x) ws left = BlockedAt (Variable x)
given_more h within (Function f) ws left = of_call h within f ws left
given_more h within (Applied t u) ws left = given_more h within t (unless_small u (given_more h within u []) ∷ ws) left

-- a term, where what a call opens to is evaluated so
abbrev pub in_context : History → (Term → Way) → Term → Way
in_context h within t = unless_small t (given_more h within t [])

-- what no term opens to, where no nesting is left
abbrev pub nowhere : Term → Way
nowhere t left = OutOfFuel

-- a term, where openings may nest so far
unfoldable pub outcome_within : History → ℕ → Term → Way
outcome_within h zero t left = in_context h nowhere t left
outcome_within h (suc n) t left = in_context h (outcome_within h n) t left

-- a term alone
abbrev pub outcome_of : History → Term → Outcome
outcome_of h t = outcome_within h nesting_limit t call_limit

abbrev pub value_reached : Outcome → Option Term
value_reached (Reached v left) = Some v
value_reached (BlockedAt u) = None
value_reached OutOfFuel = None

-- the term is ground and not too deep, and v is its value
pub record HasGroundValue (h : History) (t v : Term) : Type 0 where
  pub ground : variables_of t ≡ []
  pub shallow : depth_of t ≤ term_depth
  pub value : value_reached (outcome_of h t) ≡ Some v

-- the term has a value, and it isn't F: what the second fragment holds
pub record HasTrueValue (h : History) (t : Term) : Type 0 where
  pub value : Term
  pub has : HasGroundValue h t value
  pub is_true : value ≡ false_term → ⊥
