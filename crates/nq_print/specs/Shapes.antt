-- A term by the number of its arguments.
use Rattle.std.specs.Prelude.{◌≡◌, ◌<◌, None, List}
use Rattle.nq_logic.specs.Terms.{Term, Variable, Function, Applied, applied}
use Rattle.nq_logic.specs.Words.{numeral}
use Rattle.nq_bank.specs.declared.node.TermId.{TermId}
use Rattle.nq_logic.specs.Numerals.{number_of, numeral_limit}
use Rattle.nq_bank.specs.Content.{Content, Stands, IsNamed, text_at, term_at}
use Rattle.nq_print.specs.declared.shape.Shape.{Shape}
use Rattle.nq_print.specs.declared.shape.Shape.TheVariants.{Variable as OfVariable, Number, Constant, Single, Pair, Longer}

-- a part stands before the whole
pub record IsPart (bank : Content) (t a : TermId) : Type 0 where
  pub stands : Stands bank a
  pub earlier : a.0 < t.0

-- the shape is that of the term
abbrev pub IsShape : Content → TermId → Shape → Type 0
IsShape bank t (OfVariable s) = IsNamed bank s × (term_at bank t ≡ Variable (text_at bank s))
IsShape bank t (Number n) = (n < numeral_limit) × (term_at bank t ≡ numeral n)
IsShape bank t (Constant f) = IsNamed bank f × (number_of (term_at bank t) ≡ None) × (term_at bank t ≡ Function (text_at bank f))
IsShape bank t (Single f a) = IsNamed bank f × (number_of (term_at bank t) ≡ None) × IsPart bank t a × (term_at bank t ≡ Applied (Function (text_at bank f)) (term_at bank a))
IsShape bank t (Pair f a b) =
    IsNamed bank f × (number_of (term_at bank t) ≡ None) × IsPart bank t a × IsPart bank t b
    × (term_at bank t ≡ Applied (Applied (Function (text_at bank f)) (term_at bank a)) (term_at bank b))
IsShape bank t (Longer f) =
    IsNamed bank f × (number_of (term_at bank t) ≡ None)
    × ((x : Term) × (y : Term) × (z : Term) × (more : List Term) × (term_at bank t ≡ applied (Applied (Applied (Applied (Function (text_at bank f)) x) y) z) more))
