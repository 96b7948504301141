use Rattle.std.proofs.Common.{sym, ap, ◌∙◌}
use Rattle.nq_proof.specs.Values.{is_true}
use Rattle.nq_value.proofs.NumeralLemmas.{is_true-numeral}
use Rattle.nq_value.proofs.kinds.is_true.Goals as goal

pub returns-in-Number : goal.returns-in-Number
returns-in-Number c = is_true-numeral c.in-Number.field-0 ∙ sym (ap is_true c.in-Number.ensures.1)
