use Rattle.std.proofs.Common.{sym, ap, ◌∙◌}
use Rattle.nq_proof.specs.Values.{part_of}
use Rattle.nq_value.proofs.NumeralLemmas.{packed-numeral}
use Rattle.nq_value.proofs.parts.characters_of_atom.Goals as goal

pub returns-in-Number-clause-part : goal.returns-in-Number-clause-part
returns-in-Number-clause-part c = packed-numeral c.in-Number.field-0 ∙ sym (ap (part_of "PACK") c.in-Number.ensures.1)
