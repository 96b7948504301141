-- The linear form of a term, by what stands at its head.
use Rattle.std.specs.Prelude.{ℕ, ◌<◌, ◌&&◌, ◌||◌, Bool, true, false, pos, neg_ℤ, Option, None, ⊤}
use Rattle.nq_logic.specs.Terms.{Term, Applied}
use Rattle.nq_proof.specs.Paths.{is_function}
use Rattle.nq_bank.specs.declared.node.TermId.{TermId}
use Rattle.nq_bank.specs.Content.{Content, term_at}
use Rattle.nq_proof.specs.Linear.{Form, and_then, constant_form, atom_form, sum_form, scaled, form_of, difference_form}
use Rattle.nq_linear_rule.specs.declared.shape.Shape.{Shape}
use Rattle.nq_linear_rule.specs.declared.shape.Shape.TheVariants.{Atom, Number, Successor, Sum, Multiple}
use Rattle.nq_linear_rule.specs.declared.shape.Relation.{Relation}
use Rattle.nq_linear_rule.specs.declared.shape.Relation.TheVariants.{Less, NotLess, NotEqual, Other}

-- so many times a form
abbrev pub times_form : ℕ → Option Form → Option Form
times_form n a = and_then (constant_form (pos n)) (λ x. and_then a (λ y. scaled x.constant y))

-- the form of a term of this shape
abbrev pub form_by : Content → Term → Shape → Option Form
form_by bank t Atom = atom_form t
form_by bank t (Number n) = constant_form (pos n)
form_by bank t (Successor a) = sum_form (form_of (term_at bank a)) (constant_form (pos 1))
form_by bank t (Sum a b) = sum_form (form_of (term_at bank a)) (form_of (term_at bank b))
form_by bank t (Multiple n a) = times_form n (form_of (term_at bank a))

-- the parts' ids are smaller
abbrev pub PartsAreEarlier : TermId → Shape → Type 0
PartsAreEarlier t Atom = ⊤
PartsAreEarlier t (Number n) = ⊤
PartsAreEarlier t (Successor a) = a.0 < t.0
PartsAreEarlier t (Sum a b) = (a.0 < t.0) × (b.0 < t.0)
PartsAreEarlier t (Multiple n a) = a.0 < t.0

-- the expression of a literal of this kind, read in this order
abbrev pub expression_by : Content → Bool → Relation → Option Form
expression_by bank forwards (Less a b) = elim forwards as (λ b. Option Form) [ true ↦ difference_form (term_at bank a) (term_at bank b) | false ↦ None ]
expression_by bank forwards (NotLess a b) = elim forwards as (λ b. Option Form) [ true ↦ sum_form (difference_form (term_at bank b) (term_at bank a)) (constant_form (neg_ℤ (pos 1))) | false ↦ None ]
expression_by bank forwards (NotEqual a b) = elim forwards as (λ b. Option Form) [ true ↦ difference_form (term_at bank a) (term_at bank b) | false ↦ difference_form (term_at bank b) (term_at bank a) ]
expression_by bank forwards Other = None

-- the sides' ids are smaller
abbrev pub SidesAreEarlier : TermId → Relation → Type 0
SidesAreEarlier t (Less a b) = (a.0 < t.0) × (b.0 < t.0)
SidesAreEarlier t (NotLess a b) = (a.0 < t.0) × (b.0 < t.0)
SidesAreEarlier t (NotEqual a b) = (a.0 < t.0) × (b.0 < t.0)
SidesAreEarlier t Other = ⊤

-- whether a literal is of a kind that LINEAR allows: (LESSP a b), or the NOT of it or of (EQUAL a b)
abbrev pub is_linear : Term → Bool
is_linear (Applied (Applied f a) b) = is_function "LESSP" f
is_linear (Applied n (Applied (Applied f a) b)) = is_function "NOT" n && (is_function "LESSP" f || is_function "EQUAL" f)
is_linear t = false

-- whether this is the kind of a literal that LINEAR allows
abbrev pub is_allowed : Relation → Bool
is_allowed (Less a b) = true
is_allowed (NotLess a b) = true
is_allowed (NotEqual a b) = true
is_allowed Other = false
