use Rattle.std.proofs.Common.{sym, ap, ◌∙◌}
use Rattle.nq_proof.specs.Values.{rest_of_pair}
use Rattle.nq_value.proofs.NumeralLemmas.{rest-numeral}
use Rattle.nq_value.proofs.parts.rest_of_pair.Goals as goal

pub returns-in-Number-clause-part : goal.returns-in-Number-clause-part
returns-in-Number-clause-part c = rest-numeral c.in-Number.field-0 ∙ sym (ap rest_of_pair c.in-Number.ensures.1)
