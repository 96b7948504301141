use Rattle.std.proofs.Common.{sym, ap, ◌∙◌}
use Rattle.nq_proof.specs.Values.{part_of}
use Rattle.nq_value.proofs.NumeralLemmas.{guts-numeral}
use Rattle.nq_value.proofs.parts.numeral_of_negative.Goals as goal

pub returns-in-Number-clause-part : goal.returns-in-Number-clause-part
returns-in-Number-clause-part c = guts-numeral c.in-Number.field-0 ∙ sym (ap (part_of "MINUS") c.in-Number.ensures.1)
