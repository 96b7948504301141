use Rattle.std.proofs.Common.{sym, ap, ◌∙◌}
use Rattle.nq_logic.specs.Words.{true_term}
use Rattle.nq_proof.specs.Clauses.{same_term}
use Rattle.nq_value.proofs.NumeralLemmas.{same_term-truth}
use Rattle.nq_value.proofs.kinds.is_truth.Goals as goal

pub returns-in-Number : goal.returns-in-Number
returns-in-Number c = same_term-truth c.in-Number.field-0 ∙ sym (ap (λ t. same_term t true_term) c.in-Number.ensures.1)
