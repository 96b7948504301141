-- What an object is.
use Rattle.std.specs.Prelude.{◌≡◌, true, false, is_some, None, Some}
use Rattle.nq_logic.specs.Terms.{Function, Applied}
use Rattle.nq_logic.specs.Numerals.{number_of}
use Rattle.nq_bank.specs.declared.node.TermId.{TermId}
use Rattle.nq_bank.specs.Content.{Content, Stands, IsNamed, text_at, term_at}
use Rattle.nq_form.specs.Form.{numeral}
use Rattle.nq_language.specs.Quotations.{object_of, single_object, pair_object}
use Rattle.nq_print.specs.declared.quoting.Object.{Object}
use Rattle.nq_print.specs.declared.quoting.Object.TheVariants.{Number, Single, Pair}
use Rattle.nq_print.specs.Shapes.{IsPart}
use Rattle.nq_print.specs.Pieces.{is_object}

-- the term is this object
abbrev pub IsObjectAt : Content → TermId → Object → Type 0
IsObjectAt bank t (Number n) = object_of (term_at bank t) ≡ Some (numeral false n)
IsObjectAt bank t (Single f a) =
    IsNamed bank f × Stands bank a × (number_of (Applied (Function (text_at bank f)) (term_at bank a)) ≡ None)
    × (is_some (single_object (Function (text_at bank f)) (term_at bank a)) ≡ true) × (object_of (term_at bank t) ≡ single_object (Function (text_at bank f)) (term_at bank a))
IsObjectAt bank t (Pair a b) =
    IsPart bank t a × IsPart bank t b × (is_object (term_at bank a) ≡ true) × (is_object (term_at bank b) ≡ true)
    × (object_of (term_at bank t) ≡ pair_object (object_of (term_at bank a)) (object_of (term_at bank b)))
