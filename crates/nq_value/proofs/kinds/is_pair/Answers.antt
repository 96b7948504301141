use Rattle.std.proofs.Common.{sym, ap, ◌∙◌}
use Rattle.nq_proof.specs.Values.{is_pair}
use Rattle.nq_value.proofs.NumeralLemmas.{is_pair-numeral}
use Rattle.nq_value.proofs.kinds.is_pair.Goals as goal

pub returns-in-Number : goal.returns-in-Number
returns-in-Number c = is_pair-numeral c.in-Number.field-0 ∙ sym (ap is_pair c.in-Number.ensures.1)
