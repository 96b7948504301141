use Rattle.std.proofs.Common.{sym, ap, ◌∙◌}
use Rattle.nq_logic.specs.Words.{false_term}
use Rattle.nq_proof.specs.Clauses.{same_term}
use Rattle.nq_eval.proofs.ClosingLemmas.{numeral_not_false}
use Rattle.nq_eval.proofs.heads.is_falsity.Goals as goal

pub returns-in-Num : goal.returns-in-Num
returns-in-Num c = numeral_not_false c.in-Num.field-0 ∙ sym (ap (λ t. same_term t false_term) c.in-Num.ensures.head.1)
