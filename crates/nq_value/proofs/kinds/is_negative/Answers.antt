use Rattle.std.proofs.Common.{sym, ap, ◌∙◌}
use Rattle.nq_proof.specs.Values.{is_call_of}
use Rattle.nq_value.proofs.NumeralLemmas.{is_minus-numeral}
use Rattle.nq_value.proofs.kinds.is_negative.Goals as goal

pub returns-in-Number : goal.returns-in-Number
returns-in-Number c = is_minus-numeral c.in-Number.field-0 ∙ sym (ap (is_call_of "MINUS") c.in-Number.ensures.1)
