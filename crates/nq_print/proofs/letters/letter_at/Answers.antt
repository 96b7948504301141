use Rattle.std.proofs.Common.{ap, ◌∙◌}
use Rattle.nq_print.specs.Pieces.{letter_at}
use Rattle.nq_print.proofs.LetterLemmas.{letter_at-numeral, letter_at-longer}
use Rattle.nq_print.proofs.letters.letter_at.Goals as goal

pub returns-in-Number : goal.returns-in-Number
returns-in-Number c = ap letter_at c.in-Number.ensures.1 ∙ letter_at-numeral c.in-Number.field-0

pub returns-in-Longer : goal.returns-in-Longer
returns-in-Longer c =
    let is = c.in-Longer.ensures.2 in
    ap letter_at is.4 ∙ letter_at-longer _ is.1 is.2 is.3
