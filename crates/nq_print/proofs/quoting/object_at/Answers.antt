use Rattle.std.proofs.Common.{sym, ap, ◌∙◌}
use Rattle.nq_logic.specs.Numerals.{number_of}
use Rattle.nq_language.specs.Quotations.{object_of}
use Rattle.nq_print.proofs.ObjectLemmas.{object-numeral, object-variable, object-constant, object-longer, object-parts, object-argument, no_object}
use Rattle.nq_print.proofs.quoting.object_at.Goals as goal

pub returns-in-Number : goal.returns-in-Number
returns-in-Number c = ap object_of c.in-Number.ensures.1 ∙ object-numeral c.in-Number.n c.in-Number.ensures.0

pub returns-in-Single : goal.returns-in-Single
returns-in-Single c =
    let is = object-argument _ _ _ c.in-Single.ensures.3 c.requires.is_one c.in-Single.ensures.1 in
    (c.in-Single.ensures.0, c.in-Single.ensures.2.stands, is.0, is.1, is.2)

pub returns-in-Pair : goal.returns-in-Pair
returns-in-Pair c =
    let parts = object-parts _ _ _ _ c.in-Pair.ensures.4 c.requires.is_one in
    (c.in-Pair.ensures.2, c.in-Pair.ensures.3, parts.0, parts.1, parts.2)

pub returns-in-Variable : goal.returns-in-Variable
returns-in-Variable c = absurd (no_object _ _ c.in-Variable.ensures.1 (object-variable _) c.requires.is_one)

pub returns-in-Constant : goal.returns-in-Constant
returns-in-Constant c =
    let none = sym (ap number_of c.in-Constant.ensures.2) ∙ c.in-Constant.ensures.1 in
    absurd (no_object _ _ c.in-Constant.ensures.2 (object-constant _ none) c.requires.is_one)

pub returns-in-Longer : goal.returns-in-Longer
returns-in-Longer c =
    let is = c.in-Longer.ensures.2 in
    absurd (no_object _ _ is.4 (object-longer _ is.0 is.1 is.2 is.3) c.requires.is_one)
