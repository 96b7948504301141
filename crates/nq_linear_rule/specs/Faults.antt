-- Why a literal has no expression: the first numbers, from left to right, whose sum or product leaves LINEAR's bounds, or the
-- first numeral that does.
use Rattle.std.specs.Prelude.{ℕ, pos, neg_ℤ, ◌+ℤ◌, ◌*ℤ◌, ℤ, ◌&&◌, true, false, Option, Some, None, List, [], ◌∷◌, if◌then◌else◌}
use Rattle.nq_logic.specs.Terms.{Term, Variable, Function, Applied}
use Rattle.nq_logic.specs.Numerals.{is_numeral}
use Rattle.nq_bank.specs.Content.{Content, term_at}
use Rattle.nq_proof.specs.Clauses.{same_term}
use Rattle.nq_proof.specs.Paths.{is_function}
use Rattle.nq_proof.specs.Values.{number_or_zero}
use Rattle.nq_proof.specs.Linear.{Form, and_then, bounded, with_atom, scaled, constant_form, form_of, difference_form}
use Rattle.nq_linear_rule.specs.declared.shape.Shape.{Shape}
use Rattle.nq_linear_rule.specs.declared.shape.Shape.TheVariants.{Atom, Number, Successor, Sum, Multiple}
use Rattle.nq_linear_rule.specs.declared.shape.Relation.{Relation}
use Rattle.nq_linear_rule.specs.declared.shape.Relation.TheVariants.{Less, NotLess, NotEqual, Other}
use Rattle.nq_linear_rule.specs.declared.faults.Fault.{Fault}
use Rattle.nq_linear_rule.specs.declared.faults.Fault.TheVariants.{Passes, Wide}

-- the fault, where there is no number
abbrev pub unless : Option ℤ → Fault → Option Fault
unless None fault = Some fault
unless (Some n) fault = None

abbrev pub first_of : Option Fault → Option Fault → Option Fault
first_of (Some fault) other = Some fault
first_of None other = other

abbrev pub sum_passes : ℤ → ℤ → Option Fault
sum_passes x y = unless (bounded (x +ℤ y)) (Passes x y)

abbrev pub product_passes : ℤ → ℤ → Option Fault
product_passes x y = unless (bounded (x *ℤ y)) (Passes x y)

abbrev pub is_wide : ℕ → Option Fault
is_wide n = unless (bounded (pos n)) (Wide n)

-- in a sum, where an atom stands already
abbrev pub atom_fault : Term → ℤ → List (Term × ℤ) → Option Fault
atom_fault t z [] = None
atom_fault t z (a ∷ atoms) = if same_term t a.0 then sum_passes a.1 z else atom_fault t z atoms

abbrev pub atoms_fault : List (Term × ℤ) → List (Term × ℤ) → Option Fault
atoms_fault atoms [] = None
atoms_fault atoms (a ∷ more) = first_of (atom_fault a.0 a.1 atoms) (and_then (with_atom a.0 a.1 atoms) (λ sum. atoms_fault sum more))

abbrev pub added_fault : Form → Form → Option Fault
added_fault a b = first_of (sum_passes a.constant b.constant) (atoms_fault a.atoms b.atoms)

-- in a multiple
abbrev pub multiples_fault : ℤ → List (Term × ℤ) → Option Fault
multiples_fault z [] = None
multiples_fault z (a ∷ atoms) = first_of (product_passes z a.1) (multiples_fault z atoms)

abbrev pub scaled_fault : ℤ → Form → Option Fault
scaled_fault z a = first_of (product_passes z a.constant) (multiples_fault z a.atoms)

abbrev pub sum_fault : Option Form → Option Form → Option Fault
sum_fault a b = and_then a (λ x. and_then b (λ y. added_fault x y))

-- in a multiple by a numeral
abbrev pub times_fault : ℕ → Option Form → Option Fault
times_fault n a = first_of (is_wide n) (and_then a (λ y. scaled_fault (pos n) y))

-- in the linear form of a term
abbrev pub form_fault : Term → Option Fault
form_fault (Variable x) = None
form_fault (Function f) = None
form_fault (Applied (Variable x) t) = None
form_fault (Applied (Function f) t) =
    elim (is_numeral (Applied (Function f) t)) as (λ b. Option Fault) [
      | true ↦ is_wide (number_or_zero (Applied (Function f) t))
      | false ↦ elim (is_function "ADD1" (Function f)) as (λ b. Option Fault) [ true ↦ first_of (form_fault t) (sum_fault (form_of t) (constant_form (pos 1))) | false ↦ None ]
    ]
form_fault (Applied (Applied f a) b) =
    elim (is_function "PLUS" f) as (λ b. Option Fault) [
      | true ↦ first_of (form_fault a) (first_of (form_fault b) (sum_fault (form_of a) (form_of b)))
      | false ↦ elim (is_function "TIMES" f && is_numeral a) as (λ b. Option Fault) [
        | true ↦ first_of (form_fault b) (times_fault (number_or_zero a) (form_of b))
        | false ↦ elim (is_function "TIMES" f && is_numeral b) as (λ b. Option Fault) [ true ↦ first_of (form_fault a) (times_fault (number_or_zero b) (form_of a)) | false ↦ None ]
      ]
    ]

-- in the form of a term less that of another
abbrev pub difference_fault : Term → Term → Option Fault
difference_fault a b = first_of (form_fault a) (first_of (form_fault b) (sum_fault (form_of a) (and_then (form_of b) (λ y. scaled (neg_ℤ (pos 1)) y))))

-- in the expression of a literal, an equation being read from left to right
abbrev pub literal_fault : Term → Option Fault
literal_fault (Applied (Applied f a) b) = elim (is_function "LESSP" f) as (λ b. Option Fault) [ true ↦ difference_fault a b | false ↦ None ]
literal_fault (Applied n (Applied (Applied f a) b)) =
    elim (is_function "NOT" n && is_function "LESSP" f) as (λ b. Option Fault) [
      | true ↦ first_of (difference_fault b a) (sum_fault (difference_form b a) (constant_form (neg_ℤ (pos 1))))
      | false ↦ elim (is_function "NOT" n && is_function "EQUAL" f) as (λ b. Option Fault) [ true ↦ difference_fault a b | false ↦ None ]
    ]
literal_fault t = None

-- of the first literal that has one
abbrev pub literals_fault : List Term → Option Fault
literals_fault [] = None
literals_fault (t ∷ ts) = first_of (literal_fault t) (literals_fault ts)

-- the same for a term of this shape
abbrev pub fault_by : Content → Shape → Option Fault
fault_by bank Atom = None
fault_by bank (Number n) = is_wide n
fault_by bank (Successor a) = first_of (form_fault (term_at bank a)) (sum_fault (form_of (term_at bank a)) (constant_form (pos 1)))
fault_by bank (Sum a b) = first_of (form_fault (term_at bank a)) (first_of (form_fault (term_at bank b)) (sum_fault (form_of (term_at bank a)) (form_of (term_at bank b))))
fault_by bank (Multiple n a) = first_of (form_fault (term_at bank a)) (times_fault n (form_of (term_at bank a)))

-- and for a literal of this kind
abbrev pub literal_fault_by : Content → Relation → Option Fault
literal_fault_by bank (Less a b) = difference_fault (term_at bank a) (term_at bank b)
literal_fault_by bank (NotLess a b) = first_of (difference_fault (term_at bank b) (term_at bank a)) (sum_fault (difference_form (term_at bank b) (term_at bank a)) (constant_form (neg_ℤ (pos 1))))
literal_fault_by bank (NotEqual a b) = difference_fault (term_at bank a) (term_at bank b)
literal_fault_by bank Other = None
